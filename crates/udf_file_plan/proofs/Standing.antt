-- The block of a kept entry of a repairable volume, as it was read.
use Rattle.std.proofs.Common.{◌≡◌, ℕ, true, List, Some, None, sym, ap, ◌∙◌}
use Rattle.udf_field.specs.declared.address.Addr.{Addr}
use Rattle.udf_entry.proofs.InBlock.{entry_is}
use Rattle.udf_file_model.specs.Content.{block_at}
use Rattle.udf_file_model.specs.Entry.{Entry, entry_header, entry_in, entry_of}
use Rattle.udf_file_model.specs.Listing.{Volume}
use Rattle.udf_tree_model.specs.Frame.{Frame, entry_at}
use Rattle.udf_tree_model.specs.Ordinary.{is_kept_entry}
use Rattle.udf_file_mends.specs.Repairable.{IsRepairable}
use Rattle.udf_file_mends.proofs.Held as held

no_some : {A : Type 0} (x : A) → None ≡ Some x → ⊥
no_some x e = cc

module _ (f : Frame) (v : Volume) (ok : IsRepairable f v) (a : Addr) (e : Entry) (kept : is_kept_entry f v a ≡ true) (reads : entry_at v a ≡ Some e) where
  -- it stands somewhere
  pub not_nowhere : v.place a ≡ None → ⊥
  not_nowhere h = let r = held.block f v ok a e kept reads in no_some r.sector (sym h ∙ r.place)

  module _ (s : ℕ) (now : List ℕ) (place : v.place a ≡ Some s) (stands : now ≡ v.disk s) where
    pub block_is : now ≡ block_at v a
    block_is = stands ∙ sym (held.block_there v a s place)

    pub header_is : entry_header a.block now ≡ Some e.header
    header_is = ap (entry_header a.block) block_is ∙ (held.has_entry f v ok a e kept reads).readable

    pub not_unreadable : entry_header a.block now ≡ None → ⊥
    not_unreadable h = no_some e.header (sym h ∙ header_is)

    pub entry_reads : entry_of a.block now ≡ Some e
    entry_reads = entry_is a.block e.header now (sym header_is) ∙ ap Some (ap (entry_in e.header) block_is ∙ held.is_entry f v ok a e kept reads)
