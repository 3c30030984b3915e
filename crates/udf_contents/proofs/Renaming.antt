-- FIDs of a content that is made anew.
use Rattle.std.proofs.Common.{◌≡◌, ℕ, ◌+◌, ◌-◌, ◌<◌, ◌≤◌, List, [], ◌∷◌, ◌++◌, length, get_or, take, drop, Bool, true, false, cond, Option, Some, None, Result, Ok, Err, refl, sym, ap, ◌∙◌, subst, inl, inr, arith}
use Rattle.std.specs.Prelude.{◌==◌, OnOk, find, is_ok, nat_le}
use Rattle.std.proofs.lemmas.Bool.{and_parts}
use Rattle.std.proofs.lemmas.Bool.Decides.{nat_tests}
use Rattle.std.proofs.lemmas.List.Elements.{All-contains}
use Rattle.std.proofs.lemmas.List.{append-nil, append_assoc, drop_more, drop_all}
use Rattle.std.proofs.Math.Seq.{take-append_seam}
use Rattle.udf_field.specs.declared.address.Addr.{Addr}
use Rattle.udf_model.specs.Tag.{crc_length, identifier, is_whole, location, retagged, whole_id}
use Rattle.udf_file_model.specs.Anew.{named_anew, readdressed}
use Rattle.udf_file_model.specs.Fid.{IsFid, fid_at, is_parent}
use Rattle.udf_file_model.specs.Scan.{Placed, fids, fids_of}
use Rattle.udf_file_model.proofs.Fids.{is_long}
use Rattle.udf_file_model.proofs.Greedy.{Stands, is_scan}
use Rattle.udf_tree_model.specs.Among.{Member}
use Rattle.udf_tree_model.proofs.Members.{contains_of}
use Rattle.udf_kept.specs.declared.fitted.Fitted.{Fitted}
use Rattle.udf_contents.specs.Anew.{bytes_at, bytes_or, bytes_over, first_parent}

-- ---- the first parent FID
pub first_here : (left rest : List Placed) (p : Placed) (whole : Option (List ℕ)) → left ≡ p ∷ rest → is_parent p.1 ≡ true → find is_parent (fids_of left) ≡ whole → Some p.1 ≡ whole
first_here left rest p whole e h i =
    sym (ap (λ (b : Bool). cond b (Some p.1) (find is_parent (fids_of rest))) h) ∙ sym (ap (λ (l : List Placed). find is_parent (fids_of l)) e) ∙ i

pub first_later : (left rest : List Placed) (p : Placed) (whole : Option (List ℕ)) → left ≡ p ∷ rest → is_parent p.1 ≡ false → find is_parent (fids_of left) ≡ whole → find is_parent (fids_of rest) ≡ whole
first_later left rest p whole e h i =
    sym (ap (λ (b : Bool). cond b (Some p.1) (find is_parent (fids_of rest))) h) ∙ sym (ap (λ (l : List Placed). find is_parent (fids_of l)) e) ∙ i

pub first_nowhere : (left : List Placed) (whole : Option (List ℕ)) → left ≡ [] → find is_parent (fids_of left) ≡ whole → None ≡ whole
first_nowhere left whole e i = sym (ap (λ (l : List Placed). find is_parent (fids_of l)) e) ∙ i

-- ---- a FID that names another address
pub renamed : (fid : List ℕ) (at : Addr) (covered place : ℕ) (new : List ℕ) → covered ≡ crc_length fid → place ≡ location fid → new ≡ retagged place covered (readdressed at fid) → new ≡ named_anew at fid
unfolding named_anew
renamed fid at covered place new c p e = e ∙ ap (λ (n : ℕ). retagged place n (readdressed at fid)) c ∙ ap (λ (n : ℕ). retagged n (crc_length fid) (readdressed at fid)) p

-- ---- the bytes of fitted links
pub no_bytes : (size place : ℕ) (content old : List ℕ) → (place == 0) ≡ true → old ≡ old ++ bytes_at size content place
unfolding bytes_at
no_bytes size place content old e = sym (ap (λ (b : Bool). old ++ cond b [] (bytes_or (fid_at size (drop (place - 1) content)))) e ∙ append-nil old)

bytes_are : (size place : ℕ) (content : List ℕ) (o : Option (List ℕ)) → (place == 0) ≡ false → o ≡ fid_at size (drop (place - 1) content) → bytes_or o ≡ bytes_at size content place
unfolding bytes_at
bytes_are size place content o e h = ap bytes_or h ∙ sym (ap (λ (b : Bool). cond b [] (bytes_or (fid_at size (drop (place - 1) content)))) e)

pub none_bytes : (size place : ℕ) (content old : List ℕ) → (place == 0) ≡ false → None ≡ fid_at size (drop (place - 1) content) → old ≡ old ++ bytes_at size content place
none_bytes size place content old e h = sym (append-nil old) ∙ ap (λ (x : List ℕ). old ++ x) (bytes_are size place content None e h)

extended : {T E : Type 0} (r : Result T E) (old new x y : List ℕ) → new ≡ cond (is_ok r) (old ++ x) old → x ≡ y → OnOk r (new ≡ old ++ y)
extended (Ok t) old new x y e h = e ∙ ap (λ (z : List ℕ). old ++ z) h
extended (Err t) old new x y e h = tt

pub some_bytes : {T E : Type 0} (r : Result T E) (size place : ℕ) (content old new fid x : List ℕ) → (place == 0) ≡ false → Some fid ≡ fid_at size (drop (place - 1) content) → x ≡ fid → new ≡ cond (is_ok r) (old ++ x) old
    → OnOk r (new ≡ old ++ bytes_at size content place)
some_bytes r size place content old new fid x e h i k = extended r old new x (bytes_at size content place) k (i ∙ bytes_are size place content (Some fid) e h)

pub bytes_more : (size : ℕ) (content : List ℕ) (xs : List Fitted) (i : ℕ) (d : Fitted) (old new whole : List ℕ) → i < length xs → new ≡ old ++ bytes_at size content (get_or xs i d).place
    → old ++ bytes_over size content (drop i xs) ≡ whole → new ++ bytes_over size content (drop (i + 1) xs) ≡ whole
unfolding bytes_over
bytes_more size content xs i d old new whole l e h =
    ap (λ (z : List ℕ). z ++ bytes_over size content (drop (i + 1) xs)) e
    ∙ append_assoc old (bytes_at size content (get_or xs i d).place) (bytes_over size content (drop (i + 1) xs))
    ∙ ap (λ (z : List Fitted). old ++ bytes_over size content z) (sym (drop_more xs i d l))
    ∙ h

pub bytes_end : (size : ℕ) (content : List ℕ) (xs : List Fitted) (i : ℕ) (old whole : List ℕ) → length xs ≤ i → old ++ bytes_over size content (drop i xs) ≡ whole → old ≡ whole
unfolding bytes_over
bytes_end size content xs i old whole l h = sym (ap (λ (z : List Fitted). old ++ bytes_over size content z) (drop_all i xs l) ∙ append-nil old) ∙ h

-- what was lent whole comes back whole
pub whole_back : (n : ℕ) (new rest : List ℕ) → n ≡ length new → take n (new ++ rest) ≡ new
whole_back n new rest e = ap (λ (k : ℕ). take k (new ++ rest)) e ∙ take-append_seam new rest

-- ---- the first parent FID is a whole FID
find_member : (ps : List Placed) (fid : List ℕ) → find is_parent (fids_of ps) ≡ Some fid → (p : Placed) × Member p ps × (p.1 ≡ fid)
find_member [] fid e = cc
find_member (q ∷ qs) fid e = by (λ k. find_member qs fid k) (is_parent q.1) e
  where
    by : (find is_parent (fids_of qs) ≡ Some fid → (p : Placed) × Member p qs × (p.1 ≡ fid)) → (b : Bool) → cond b (Some q.1) (find is_parent (fids_of qs)) ≡ Some fid
        → (p : Placed) × Member p (q ∷ qs) × (p.1 ≡ fid)
    by rest true k = (q, inl refl, cc)
    by rest false k = let r = rest k in (r.0, inr r.1, r.2)

first_is_fid : (size : ℕ) (content fid : List ℕ) → Some fid ≡ first_parent size content → IsFid size fid
first_is_fid size content fid e =
    let r = find_member (fids size content) fid (sym e) in
    subst (IsFid size) r.2 (All-contains (Stands size content) (fids size content) r.0 (is_scan size content).whole (contains_of (fids size content) r.0 r.1)).1.is

pub first_long : (size : ℕ) (content fid : List ℕ) → Some fid ≡ first_parent size content → 40 ≤ length fid
first_long size content fid e = is_long size fid (first_is_fid size content fid e)

covered_room : (area : List ℕ) (id : ℕ) → whole_id area ≡ Some id → 16 + crc_length area ≤ length area
unfolding whole_id is_whole
covered_room area id h = below (and_parts (nat_le (16 + crc_length area) (length area)) _ (by _ h)).0
  where
    by : (t : Bool) → cond t (Some (identifier area)) None ≡ Some id → t ≡ true
    by true e = refl
    by false e = cc

    below : {m n : ℕ} → nat_le m n ≡ true → m ≤ n
    below t = grind (arith, nat_tests)

pub first_covered : (size : ℕ) (content fid : List ℕ) → Some fid ≡ first_parent size content → 16 + crc_length fid ≤ length fid
first_covered size content fid e = covered_room fid 257 (first_is_fid size content fid e).whole
