-- What a call that reads an address answers.
use Rattle.std.specs.Prelude.{◌≡◌, true, false, Some, None}
use Rattle.udf_field.specs.declared.address.Addr.{Addr}
use Rattle.udf_file_model.specs.Entry.{Entry}
use Rattle.udf_file_model.specs.Listing.{Volume}
use Rattle.udf_tree_model.specs.Frame.{entry_at}
use Rattle.udf_tree_model.specs.Refused.{is_indirect}
use Rattle.udf_found.specs.declared.reading.Sought.{Sought}
use Rattle.udf_found.specs.declared.reading.Sought.TheVariants as sought
use Rattle.udf_found.specs.Beyond.{beyond_of}
use Rattle.udf_found.specs.Shape.{IsShape}
use Rattle.udf_found.specs.Linked.{AreLinks}
use Rattle.udf_found.specs.Target.{entry_links}

-- the links of the readable entry at an address, its shape, and what this profile has not of it; or an indirect
-- entry, or none
abbrev pub Reads : Volume → Addr → Sought → Type 0
Reads v a (sought.Entry links shape beyond) =
    (e : Entry) × (entry_at v a ≡ Some e) × AreLinks (entry_links v a e) links.items × IsShape v a e shape × (beyond ≡ beyond_of e)
Reads v a sought.Indirect = (entry_at v a ≡ None) × (is_indirect v a ≡ true)
Reads v a sought.Nothing = (entry_at v a ≡ None) × (is_indirect v a ≡ false)

-- the address is placed where an entry was read
abbrev pub IsPlacedWhere : Type 0 → Sought → Type 0
IsPlacedWhere placed (sought.Entry links shape beyond) = placed
IsPlacedWhere placed sought.Indirect = Unit {0}
IsPlacedWhere placed sought.Nothing = Unit {0}
