-- The mended content of a kept directory.
use Rattle.std.proofs.Common.{◌≡◌, ℕ, ◌+◌, ◌-◌, ◌≤◌, ◌&&◌, nat_le, Bool, true, false, cond, Option, Some, None, List, [], ◌∷◌, ◌++◌, length, refl, sym, ap, ◌∙◌, subst, arith}
use Rattle.std.specs.Prelude.{min}
use Rattle.std.proofs.lemmas.Bool.{and_parts}
use Rattle.std.proofs.lemmas.Bool.Decides.{nat_tests}
use Rattle.udf_field.specs.declared.address.Addr.{Addr}
use Rattle.udf_model.specs.Bytes.{IsBytes}
use Rattle.udf_model.proofs.Parts.{append_is_bytes}
use Rattle.udf_file_model.specs.Entry.{Entry, is_directory}
use Rattle.udf_file_model.specs.Listing.{Volume, list_for}
use Rattle.udf_file_model.specs.Pack.{packed}
use Rattle.udf_file_model.proofs.Fids.{is_long}
use Rattle.udf_file_model.specs.Scan.{Placed, fids, fids_of}
use Rattle.udf_tree_model.specs.Chosen.{fit, fitted, selects}
use Rattle.udf_tree_model.specs.Content.{content_holds, content_stays, fid_of, fitted_bytes, kept_content, kept_fids, mended_content, parent_fid}
use Rattle.udf_tree_model.specs.Frame.{Frame, capacity, entry_at, node_with, parent_length, setting_of, tree_of}
use Rattle.udf_tree_model.specs.Link.{Link, fid_links, pointer_link, room_of}
use Rattle.udf_tree_model.specs.Mended.{rooms, said}
use Rattle.udf_tree_model.specs.Node.{Node, Setting, Tree}
use Rattle.udf_tree_model.specs.Ordinary.{is_kept_entry}
use Rattle.udf_tree_model.specs.Parent.{is_stream_directory, parent}
use Rattle.udf_tree_model.specs.Rules.{names_hold, targets_hold}
use Rattle.udf_tree_model.specs.Won.{kept_length}
use Rattle.udf_tree_model.proofs.Members.{member_map}
use Rattle.udf_file_mends.specs.Repairable.{IsRepairable}
use Rattle.udf_file_mends.proofs.Held as held
use Rattle.udf_file_mends.proofs.Links as links
use Rattle.udf_file_mends.proofs.Packed.{AllLiveFids, AsFids, as_fids, packed_beside, packed_holds, packed_rooms, packed_says, whole_beside}
use Rattle.udf_file_mends.proofs.Parent.{parent_is, parent_long, parent_within}
use Rattle.udf_file_mends.proofs.Wholeness.{fid_of_bytes, kept_is_bytes}

rooms_fit : (n : ℕ) (fs : List Link) → rooms (fit n fs) ≤ n
unfolding fit
rooms_fit n [] = omega arith
rooms_fit n (g ∷ gs) = by (nat_le (room_of g.says) n) refl (rooms_fit (n - room_of g.says) gs)
  where
    below : nat_le (room_of g.says) n ≡ true → room_of g.says ≤ n
    below t = grind (arith, nat_tests)

    by : (t : Bool) → nat_le (room_of g.says) n ≡ t → rooms (fit (n - room_of g.says) gs) ≤ n - room_of g.says → rooms (cond t (g ∷ fit (n - room_of g.says) gs) []) ≤ n
    by true t h = omega (arith, below t, h)
    by false t h = omega arith

fitted_joined : (xs ys : List Link) → fitted_bytes (xs ++ ys) ≡ fitted_bytes xs ++ fitted_bytes ys
fitted_joined [] ys = refl
fitted_joined (x ∷ xs) ys = ap (λ z. fid_of x.says ++ z) (fitted_joined xs ys) ∙ sym (append_three (fid_of x.says) (fitted_bytes xs) (fitted_bytes ys))
  where
    append_three : (a b c : List ℕ) → (a ++ b) ++ c ≡ a ++ (b ++ c)
    append_three [] b c = refl
    append_three (z ∷ zs) b c = ap (λ k. z ∷ k) (append_three zs b c)

module _ (f : Frame) (v : Volume) (ok : IsRepairable f v) (a : Addr) (e : Entry) (kept_there : is_kept_entry f v a ≡ true) (reads : entry_at v a ≡ Some e) (directory : is_directory e ≡ true) where
  abbrev s : Setting
  s = setting_of f v

  abbrev t : Tree
  t = tree_of f v

  abbrev limit : ℕ
  limit = kept_length s t a

  abbrev content : List ℕ
  content = kept_content f v a

  abbrev pub chosen : List Link
  chosen = fit (links.room f v ok a e kept_there reads) (links.chosen_fids f v ok a e kept_there reads)

  -- the mended content says what the fitted FIDs say, within what is kept
  pub record IsMendedContent : Type 0 where
    pub says : said (fid_links v.size (mended_content f v a)) ≡ said chosen
    pub beside : parent_length (fids_of (fids v.size (mended_content f v a))) + rooms (fid_links v.size (mended_content f v a)) ≤ length (mended_content f v a)
    pub kept : length (mended_content f v a) ≤ kept_length (setting_of f v) (tree_of f v) a
    pub fits : length (mended_content f v a) ≤ capacity v.size e (list_for v a e)
    pub long : 40 ≤ length (mended_content f v a)
    pub bytes : IsBytes (mended_content f v a)
    pub holds : content_holds v.size (is_stream_directory (setting_of f v) (tree_of f v) a) (parent f v a) (mended_content f v a) ≡ true

  within_kept : length content ≤ limit
  within_kept = held.content_kept f v ok a e kept_there reads directory

  within_cap : length content ≤ capacity v.size e (list_for v a e)
  within_cap = held.content_fits f v ok a e kept_there reads directory

  long_enough : 40 ≤ length content
  long_enough = held.content_long f v ok a e kept_there reads directory

  content_bytes : IsBytes content
  content_bytes = kept_is_bytes v ok.bytes f a

  room_is : links.room f v ok a e kept_there reads ≡ min limit (capacity v.size e (list_for v a e)) - parent_length (kept_fids f v a)
  unfolding node_with
  room_is =
      ap (λ (n : Node). n.space limit) (held.node f v ok a e kept_there reads)
      ∙ ap (λ c. min limit (capacity v.size e (list_for v a e)) - parent_length (fids_of (fids v.size c))) (sym (held.content_is f v ok a e kept_there reads))

  -- ---- where the content stays
  pub stays_is : content_stays f v a ≡ true → mended_content f v a ≡ content
  unfolding mended_content
  stays_is h = ap (λ b. cond b content (parent_fid f v a ++ fitted_bytes (fitted s t a))) h

  module _ (stays : content_stays f v a ≡ true) where
    parts : (targets_hold s t a ≡ true) × ((names_hold s t a ≡ true) × (content_holds v.size (is_stream_directory s t a) (parent f v a) content ≡ true))
    unfolding content_stays
    parts =
        let x = and_parts (targets_hold s t a) (names_hold s t a && content_holds v.size (is_stream_directory s t a) (parent f v a) content) stays in
        (x.0, and_parts (names_hold s t a) (content_holds v.size (is_stream_directory s t a) (parent f v a) content) x.1)

    stays_beside : parent_length (fids_of (fids v.size content)) + rooms (fid_links v.size content) ≤ length content
    stays_beside = whole_beside v.size (is_stream_directory s t a) (parent f v a) content parts.1.1

    stays_says : said (fid_links v.size content) ≡ said chosen
    stays_says =
        sym (ap said (links.all_fit f v ok a e kept_there reads parts.0 parts.1.0 (omega (arith, room_is, stays_beside, within_kept, within_cap))))

    stays_content : IsMendedContent
    stays_content =
        let is = stays_is stays in
        record {
          says = ap (λ c. said (fid_links v.size c)) is ∙ stays_says;
          beside = subst (λ c. parent_length (fids_of (fids v.size c)) + rooms (fid_links v.size c) ≤ length c) (sym is) stays_beside;
          kept = omega (arith, ap length is, within_kept);
          fits = omega (arith, ap length is, within_cap);
          long = omega (arith, ap length is, long_enough);
          bytes = subst (λ c. IsBytes c) (sym is) content_bytes;
          holds = ap (content_holds v.size (is_stream_directory s t a) (parent f v a)) is ∙ parts.1.1;
        }

  -- ---- where it is made anew
  live_fids : AllLiveFids v.size chosen
  live_fids l m =
      let r = links.fid_link_of v.size content l (links.fitted_live f v ok a e kept_there reads l m) in
      let k = fid_of_bytes v.size content r.placed.1 content_bytes (member_map (λ (p : Placed). p.1) (fids v.size content) r.placed r.among) in
      record { fid = r.placed.1; says = ap (λ (z : Link). z.says) r.is; is = k.is; live = r.live; bytes = k.bytes }

  told : AsFids v.size chosen
  told = as_fids v.size chosen live_fids

  pointer_bytes : fitted_bytes (links.kept_pointer f v ok a e kept_there reads) ≡ []
  pointer_bytes = by (links.pointer f v ok a e kept_there reads)
    where
      at : (p : Addr) (b : Bool) → fitted_bytes (cond b (pointer_link p ∷ []) []) ≡ []
      at p true = refl
      at p false = refl

      by : (o : Option Addr) → fitted_bytes (links.pointer_by f v ok a e kept_there reads o) ≡ []
      by None = refl
      by (Some p) = at p (selects s t a (pointer_link p))

  module _ (anew : content_stays f v a ≡ false) where
    anew_is : mended_content f v a ≡ parent_fid f v a ++ packed told.list
    unfolding mended_content
    anew_is =
        ap (λ b. cond b content (parent_fid f v a ++ fitted_bytes (fitted s t a))) anew
        ∙ ap (λ ls. parent_fid f v a ++ fitted_bytes ls) (links.fitted_are f v ok a e kept_there reads)
        ∙ ap (λ z. parent_fid f v a ++ z) (fitted_joined (links.kept_pointer f v ok a e kept_there reads) chosen)
        ∙ ap (λ z. parent_fid f v a ++ (z ++ fitted_bytes chosen)) pointer_bytes
        ∙ ap (λ z. parent_fid f v a ++ z) told.bytes

    anew_content : IsMendedContent
    anew_content =
        let p = parent_is f v ok a e kept_there reads in
        let is = anew_is in
        let long = parent_long f v ok a e kept_there reads in
        let within = parent_within f v ok a e kept_there reads long_enough in
        let sum = packed_rooms v.size (parent_fid f v a) p.is p.parent told.list told.are told.live chosen told.says in
        let fit_rooms = rooms_fit (links.room f v ok a e kept_there reads) (links.chosen_fids f v ok a e kept_there reads) in
        record {
          says = ap (λ c. said (fid_links v.size c)) is ∙ packed_says v.size (parent_fid f v a) p.is p.parent told.list told.are told.live ∙ sym told.says;
          beside = subst (λ c. parent_length (fids_of (fids v.size c)) + rooms (fid_links v.size c) ≤ length c) (sym is)
              (packed_beside v.size (parent_fid f v a) p.is p.parent told.list told.are told.live);
          kept = omega (arith, ap length is, sum, fit_rooms, room_is, long, within, within_kept, within_cap);
          fits = omega (arith, ap length is, sum, fit_rooms, room_is, long, within, within_kept, within_cap);
          long = omega (arith, ap length is, sum, is_long v.size (parent_fid f v a) p.is);
          bytes = subst (λ c. IsBytes c) (sym is) (append_is_bytes (parent_fid f v a) (packed told.list) p.bytes told.are_bytes);
          holds = ap (content_holds v.size (is_stream_directory s t a) (parent f v a)) is
              ∙ packed_holds v.size (is_stream_directory s t a) (parent f v a) (parent_fid f v a) p.is p.parent p.names told.list told.are told.live;
        }

  pub is_mended_content : IsMendedContent
  is_mended_content = by (content_stays f v a) refl
    where
      by : (b : Bool) → content_stays f v a ≡ b → IsMendedContent
      by true h = stays_content h
      by false h = anew_content h
