-- What the calls that read an entry tell.
use Rattle.std.proofs.Common.{subst, ◌≡◌, ℕ, ◌<◌, List, [], ◌++◌, Bool, true, false, cond, ◌&&◌, Option, Some, None, Result, Ok, Err, IfOk, refl, sym, ap, ◌∙◌, arith}
use Rattle.std.specs.Prelude.{◌==◌, nat_lt}
use Rattle.std.proofs.lemmas.Bool.{and_parts, and_from}
use Rattle.std.proofs.lemmas.Bool.Decides.{nat_tests}
use Rattle.udf_field.specs.declared.address.Addr.{Addr}
use Rattle.udf_model.specs.Tag.{id_at, identifier, is_id, is_whole, location}
use Rattle.udf_file_model.specs.Entry.{Entry, entry_of, entry_by, entry_header, fitting, header_by, is_directory}
use Rattle.udf_file_model.specs.Pieces.{Piece, runs_of}
use Rattle.udf_file_model.specs.Listing.{Volume, Listing, is_good_for, listing, listing_at, listing_by, list_for, good_length}
use Rattle.udf_file_model.specs.Content.{content, content_by}
use Rattle.udf_tree_model.specs.Frame.{stream_of, links_of, content_to, entry_at, entry_by as entry_placed, is_address}
use Rattle.udf_field.specs.declared.address.Long.{Long}
use Rattle.udf_tree_model.specs.Link.{fid_links, pointer_links}
use Rattle.udf_tree_model.specs.Refused.{is_indirect, is_indirect_by}
use Rattle.udf_found.specs.declared.reading.Sought.{Sought}
use Rattle.udf_found.specs.declared.reading.Sought.TheVariants as sought
use Rattle.udf_found.specs.Merged.{merged}
use Rattle.udf_found.specs.Read.{Reads}
use Rattle.udf_found.specs.Target.{entry_links, linking}
use Rattle.udf_found.proofs.Merging.{list_merged}

pub ok_more : {T E : Type 0} (r : Result T E) (P Q : T → Type 0) → ((x : T) → P x → Q x) → IfOk r P → IfOk r Q
ok_more (Ok x) P Q h k = h x k
ok_more (Err e) P Q h k = k

number_is : (m n : ℕ) → (m == n) ≡ true → m ≡ n
number_is m n t = grind (arith, nat_tests)

-- a readable entry states the location at which it is read
stated_location : (at : ℕ) (block : List ℕ) (e : Entry) → entry_of at block ≡ Some e → location block ≡ at
unfolding entry_of entry_header id_at
stated_location at block e h = by_tag (is_whole block && (location block == at)) refl h
  where
    by_tag : (b : Bool) → (is_whole block && (location block == at)) ≡ b → entry_by block (fitting block (header_by (cond b (Some (identifier block)) None))) ≡ Some e → location block ≡ at
    by_tag true t k = number_is (location block) at (and_parts (is_whole block) (location block == at) t).1
    by_tag false t k = cc

-- the listing of a block is that of its entry
pub listed_there : (v : Volume) (a : Addr) (block : List ℕ) (e : Entry) (l : Listing) → entry_of a.block block ≡ Some e → l ≡ listing_at v a block → l ≡ listing v a e
unfolding listing_at
listed_there v a block e l h i = i ∙ ap (listing_by v a) h

pub content_up_to : (v : Volume) (at : Addr) (block : List ℕ) (e : Entry) (l : Listing) (n : ℕ) (c : List ℕ) → entry_of at.block block ≡ Some e → is_directory e ≡ true
    → l ≡ listing_at v at block → c ≡ content_by v l.runs n (entry_of (location block) block) → c ≡ content_to v e (list_for v at e) n
unfolding content_to listing_at listing
content_up_to v at block e l n c h d i k =
    let list : l ≡ listing v at e = i ∙ ap (listing_by v at) h in
    let runs : l.runs ≡ runs_of (list_for v at e) = ap (λ (x : Listing). x.runs) list in
    let entry : entry_of (location block) block ≡ Some e = ap (λ (x : ℕ). entry_of x block) (stated_location at.block block e h) ∙ h in
    k
    ∙ ap (content_by v l.runs n) entry
    ∙ ap (λ r. content v e r n) runs
    ∙ ap (λ (b : Bool). cond b (content v e (runs_of (list_for v at e)) n) []) (sym d)

pub content_is : (v : Volume) (at : Addr) (block : List ℕ) (e : Entry) (l : Listing) (n : ℕ) (c : List ℕ) → entry_of at.block block ≡ Some e → is_directory e ≡ true
    → l ≡ listing_at v at block → n ≡ l.good_length → c ≡ content_by v l.runs n (entry_of (location block) block) → c ≡ linking v at e
unfolding listing
content_is v at block e l n c h d i j k =
    content_up_to v at block e l n c h d i k
    ∙ ap (content_to v e (list_for v at e)) (j ∙ ap (λ (x : Listing). x.good_length) (listed_there v at block e l h i))

pub content_none : (v : Volume) (at : Addr) (e : Entry) (c : List ℕ) → is_directory e ≡ false → c ≡ [] → c ≡ linking v at e
unfolding content_to
content_none v at e c d k = k ∙ ap (λ (b : Bool). cond b (content v e (runs_of (list_for v at e)) (good_length v at e)) []) (sym d)

pub address_is : (a : Addr) → a.part < 65536 → a.block < 4294967296 → is_address a ≡ true
address_is a p b = and_from (nat_lt a.part 65536) (nat_lt a.block 4294967296) (low a.part 65536 p) (low a.block 4294967296 b)
  where
    low : (m n : ℕ) → m < n → nat_lt m n ≡ true
    low m n l = grind (arith, nat_tests)

pub entry_unplaced : (v : Volume) (a : Addr) → v.place a ≡ None → entry_at v a ≡ None
unfolding entry_at
entry_unplaced v a h = ap (λ (o : Option ℕ). cond (is_address a) (entry_placed v a o) None) h ∙ either (is_address a)
  where
    either : (b : Bool) → cond b (entry_placed v a None) None ≡ None
    either true = refl
    either false = refl

pub entry_there : (v : Volume) (a : Addr) (sector : ℕ) (block : List ℕ) → is_address a ≡ true → v.place a ≡ Some sector → block ≡ v.disk sector → entry_at v a ≡ entry_of a.block block
unfolding entry_at
entry_there v a sector block h p d =
    ap (λ (b : Bool). cond b (entry_placed v a (v.place a)) None) h
    ∙ ap (entry_placed v a) p
    ∙ ap (entry_of a.block) (sym d)

pub links_are : (v : Volume) (a : Addr) (e : Entry) (stream : Option Long) (bytes : List ℕ) → stream ≡ e.stream → bytes ≡ linking v a e
    → pointer_links (stream_of stream) ++ fid_links v.size bytes ≡ entry_links v a e
unfolding entry_links links_of
links_are v a e stream bytes s b =
    ap (λ (o : Option Long). pointer_links (stream_of o) ++ fid_links v.size bytes) s
    ∙ ap (λ (c : List ℕ). pointer_links (stream_of e.stream) ++ fid_links v.size c) b

pub not_indirect : (v : Volume) (a : Addr) → v.place a ≡ None → is_indirect v a ≡ false
unfolding is_indirect
not_indirect v a h = ap (λ (o : Option ℕ). is_address a && is_indirect_by v a o) h ∙ either (is_address a)
  where
    either : (b : Bool) → (b && false) ≡ false
    either true = refl
    either false = refl

pub indirect_there : (v : Volume) (a : Addr) (sector : ℕ) (block : List ℕ) → is_address a ≡ true → v.place a ≡ Some sector → block ≡ v.disk sector
    → is_indirect v a ≡ is_id 259 (id_at a.block block)
unfolding is_indirect
indirect_there v a sector block h p d =
    ap (λ (b : Bool). b && is_indirect_by v a (v.place a)) h
    ∙ ap (is_indirect_by v a) p
    ∙ ap (λ (b : List ℕ). is_id 259 (id_at a.block b)) (sym d)

-- where no readable entry stands there is an indirect entry, or nothing
pub reads_other : (v : Volume) (a : Addr) (b : Bool) (s : Sought) → entry_at v a ≡ None → is_indirect v a ≡ b → s ≡ cond b sought.Indirect sought.Nothing → Reads v a s
reads_other v a true s e h i = subst (Reads v a) (sym i) (e, h)
reads_other v a false s e h i = subst (Reads v a) (sym i) (e, h)

-- the shape that is made of a list and a content
pub pieces_are : (v : Volume) (a : Addr) (e : Entry) (l : Listing) (ps : List Piece) → 0 < v.size → l ≡ listing v a e → ps ≡ merged a l.extents l.runs → ps ≡ list_for v a e
unfolding listing
pieces_are v a e l ps some i m = m ∙ ap (λ (x : Listing). merged a x.extents x.runs) i ∙ list_merged v a e some

pub good_is : (v : Volume) (a : Addr) (e : Entry) (l : Listing) → l ≡ listing v a e → l.good ≡ is_good_for v a e
unfolding listing
good_is v a e l i = ap (λ (x : Listing). x.good) i

pub bytes_are : (v : Volume) (a : Addr) (e : Entry) (l : Listing) → l ≡ listing v a e → l.good_length ≡ good_length v a e
unfolding listing
bytes_are v a e l i = ap (λ (x : Listing). x.good_length) i
