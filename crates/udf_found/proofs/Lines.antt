-- Links as the code keeps them: where they lead, and which are the first of their names.
use Rattle.std.proofs.Common.{◌≡◌, ℕ, ◌+◌, ◌-◌, ◌<◌, List, [], ◌∷◌, ◌++◌, length, map, Bool, true, false, not, cond, ◌||◌, get_or, drop, zero, suc, inl, inr, Option, Some, None, refl, sym, ap, ◌∙◌, subst, arith}
use Rattle.std.specs.Prelude.{is_none}
use Rattle.std.specs.Ordering.{is_eq}
use Rattle.std.specs.declared.cmp.Ordering.{Ordering}
use Rattle.std.specs.declared.cmp.Ordering.TheVariants.{Equal}
use Rattle.std.specs.List.{filter, list_any}
use Rattle.std.specs.Str.{bytes_eq}
use Rattle.std.proofs.lemmas.Bool.{false≢true}
use Rattle.std.proofs.lemmas.Grind.{common_steps}
use Rattle.std.proofs.lemmas.List.{append_assoc, append-nil, map-append}
use Rattle.std.proofs.lemmas.List.Elements.{filter-append}
use Rattle.udf_field.specs.declared.address.Addr.{Addr}
use Rattle.udf_file_model.specs.Fid.{fid_at, is_live, name}
use Rattle.udf_file_model.specs.Name.{Canonical, Characters, Undecoded, canonical, canonical_cmp, canonical_key}
use Rattle.udf_file_model.specs.Scan.{Placed, fids, fids_from, taken}
use Rattle.udf_file_model.proofs.Names.{equal_names, same_order}
use Rattle.udf_tree_model.specs.Link as model
use Rattle.udf_tree_model.specs.Link.{fid_link, fid_links, name_of, pointer_link, pointer_links, target_of}
use Rattle.udf_tree_model.specs.Chosen.{first_of_names}
use Rattle.udf_tree_model.proofs.Linking.{name_same, same_name}
use Rattle.udf_tree_model.proofs.Members.{Member, member_right, same_bools}
use Rattle.udf_found.specs.declared.link.Link.{Link}
use Rattle.udf_found.specs.Linked.{AreLines, AreLinks, AreTold, IsLine, Learns, Outline, earliers, earliers_after, ends_of, first_with, is_first, live_link, outline_of, outline_seen, text_of}
use Rattle.udf_found.specs.Target.{targets_of}

-- ---- where they lead
seen_ends : (ls : List Link) → ends_of ls ≡ map (λ (o : Outline). o.target) (map outline_seen ls)
seen_ends [] = refl
seen_ends (l ∷ ls) = ap (λ (xs : List Addr). l.target ∷ xs) (seen_ends ls)

model_ends : (fs : List model.Link) → targets_of fs ≡ map (λ (o : Outline). o.target) (map outline_of fs)
model_ends [] = refl
model_ends (f ∷ fs) = ap (λ (xs : List Addr). target_of f.says ∷ xs) (model_ends fs)

pub ends_are : (fs : List model.Link) (ls : List Link) → AreLinks fs ls → ends_of ls ≡ targets_of fs
ends_are fs ls h = seen_ends ls ∙ ap (map (λ (o : Outline). o.target)) h.all ∙ sym (model_ends fs)

-- ---- the first of each name
abbrev is_with : List ℕ → List model.Link → Bool
is_with n fs = not (is_none (first_with n fs))

first_more : (n : List ℕ) (fs : List model.Link) (f : model.Link) → first_with n (fs ++ f ∷ []) ≡ cond (is_none (first_with n fs)) (cond (bytes_eq n (name_of f.says)) (Some (f.place - 1)) None) (first_with n fs)
unfolding first_with
first_more n [] f = refl
first_more n (g ∷ gs) f = go (bytes_eq n (name_of g.says)) (first_more n gs f)
  where
    go : (b : Bool) → first_with n (gs ++ f ∷ []) ≡ cond (is_none (first_with n gs)) (cond (bytes_eq n (name_of f.says)) (Some (f.place - 1)) None) (first_with n gs)
        → cond b (Some (g.place - 1)) (first_with n (gs ++ f ∷ [])) ≡ cond (is_none (cond b (Some (g.place - 1)) (first_with n gs))) (cond (bytes_eq n (name_of f.says)) (Some (f.place - 1)) None) (cond b (Some (g.place - 1)) (first_with n gs))
    go true e = refl
    go false e = e

-- among links with one more stands a name where it stood, or is that of the new one
with_more : (n : List ℕ) (fs : List model.Link) (f : model.Link) → is_with n (fs ++ f ∷ []) ≡ (bytes_eq n (name_of f.says) || is_with n fs)
with_more n fs f = ap (λ (o : Option ℕ). not (is_none o)) (first_more n fs f) ∙ go (first_with n fs) (bytes_eq n (name_of f.says))
  where
    go : (o : Option ℕ) (b : Bool) → not (is_none (cond (is_none o) (cond b (Some (f.place - 1)) None) o)) ≡ (b || not (is_none o))
    go None true = refl
    go None false = refl
    go (Some x) true = refl
    go (Some x) false = refl

known_again : (n : List ℕ) (fs : List model.Link) (f : model.Link) → is_with (name_of f.says) fs ≡ true → is_with n fs ≡ is_with n (fs ++ f ∷ [])
known_again n fs f h = go (bytes_eq n (name_of f.says)) refl ∙ sym (with_more n fs f)
  where
    go : (b : Bool) → bytes_eq n (name_of f.says) ≡ b → is_with n fs ≡ (b || is_with n fs)
    go true e = ap (λ (m : List ℕ). is_with m fs) (name_same n (name_of f.says) e) ∙ h
    go false e = refl

head_same : {X : Type 0} (d x y : X) (xs ys : List X) → x ∷ xs ≡ y ∷ ys → x ≡ y
head_same d x y xs ys e = ap (λ (l : List _). get_or l 0 d) e

tail_same : {X : Type 0} (x y : X) (xs ys : List X) → x ∷ xs ≡ y ∷ ys → xs ≡ ys
tail_same x y xs ys e = ap (drop 1) e

empty_full : {X : Type 0} (x : X) (xs : List X) → [] ≡ x ∷ xs → ⊥
empty_full x xs e = let k = ap length e in absurd (omega (arith, k))

firsts : (seen : List (List ℕ)) (before fs : List model.Link) (ls : List Link) → ((n : List ℕ) → list_any (bytes_eq n) seen ≡ is_with n before)
    → map outline_seen ls ≡ map outline_of fs → map (λ (l : Link). l.earlier) ls ≡ earliers_after before fs
    → map outline_seen (filter is_first ls) ≡ map outline_of (first_of_names seen fs)
unfolding first_of_names earliers_after
firsts seen before [] [] h a e = refl
firsts seen before [] (l ∷ ls) h a e = absurd (empty_full (outline_seen l) (map outline_seen ls) (sym a))
firsts seen before (f ∷ fs) [] h a e = absurd (empty_full (outline_of f) (map outline_of fs) a)
firsts seen before (f ∷ fs) (l ∷ ls) h a e =
    go (λ s k. firsts s (before ++ f ∷ []) fs ls k (tail_same (outline_seen l) (outline_of f) (map outline_seen ls) (map outline_of fs) a)
    (tail_same l.earlier (first_with (name_of f.says) before) (map (λ (x : Link). x.earlier) ls) (earliers_after (before ++ f ∷ []) fs) e))
    (first_with (name_of f.says) before) refl
  where
    n : List ℕ
    n = name_of f.says

    head : outline_seen l ≡ outline_of f
    head = head_same (outline_seen l) (outline_seen l) (outline_of f) (map outline_seen ls) (map outline_of fs) a

    first : l.earlier ≡ first_with n before
    first = head_same l.earlier l.earlier (first_with n before) (map (λ (x : Link). x.earlier) ls) (earliers_after (before ++ f ∷ []) fs) e

    new : first_with n before ≡ None → (m : List ℕ) → list_any (bytes_eq m) (n ∷ seen) ≡ is_with m (before ++ f ∷ [])
    new k m = ap (λ (b : Bool). bytes_eq m n || b) (h m) ∙ sym (with_more m before f)

    old : (x : ℕ) → first_with n before ≡ Some x → (m : List ℕ) → list_any (bytes_eq m) seen ≡ is_with m (before ++ f ∷ [])
    old x k m = h m ∙ known_again m before f (ap (λ (o : Option ℕ). not (is_none o)) k)

    go : ((s : List (List ℕ)) → ((m : List ℕ) → list_any (bytes_eq m) s ≡ is_with m (before ++ f ∷ [])) → map outline_seen (filter is_first ls) ≡ map outline_of (first_of_names s fs))
        → (o : Option ℕ) → first_with n before ≡ o
        → map outline_seen (cond (is_first l) (l ∷ filter is_first ls) (filter is_first ls)) ≡ map outline_of (cond (list_any (bytes_eq n) seen) (first_of_names seen fs) (f ∷ first_of_names (n ∷ seen) fs))
    go rec None k =
        ap (λ (b : Bool). map outline_seen (cond b (l ∷ filter is_first ls) (filter is_first ls))) (ap (λ (o : Option ℕ). is_none o) (first ∙ k))
        ∙ ap (λ (x : Outline). x ∷ map outline_seen (filter is_first ls)) head
        ∙ ap (λ (xs : List Outline). outline_of f ∷ xs) (rec (n ∷ seen) (new k))
        ∙ ap (λ (b : Bool). map outline_of (cond b (first_of_names seen fs) (f ∷ first_of_names (n ∷ seen) fs))) (sym (h n ∙ ap (λ (o : Option ℕ). not (is_none o)) k))
    go rec (Some x) k =
        ap (λ (b : Bool). map outline_seen (cond b (l ∷ filter is_first ls) (filter is_first ls))) (ap (λ (o : Option ℕ). is_none o) (first ∙ k))
        ∙ rec seen (old x k)
        ∙ ap (λ (b : Bool). map outline_of (cond b (first_of_names seen fs) (f ∷ first_of_names (n ∷ seen) fs))) (sym (h n ∙ ap (λ (o : Option ℕ). not (is_none o)) k))

pub named_lines : (fs : List model.Link) (ls : List Link) → AreLines fs ls → AreLinks fs ls
unfolding first_with
named_lines fs ls h = record {
  all = h.all;
  named = firsts [] [] fs ls (λ n. refl) h.all h.earlier;
  earlier = h.earlier;
  names = h.names;
}

pub are_lines : (fs : List model.Link) (ls : List Link) → AreLinks fs ls → AreLines fs ls
are_lines fs ls h = record { all = h.all; earlier = h.earlier; names = h.names }

-- ---- one link more
earliers_more : (before fs : List model.Link) (f : model.Link) → earliers_after before (fs ++ f ∷ []) ≡ earliers_after before fs ++ first_with (name_of f.says) (before ++ fs) ∷ []
unfolding earliers_after
earliers_more before [] f = ap (λ (l : List model.Link). first_with (name_of f.says) l ∷ []) (sym (append-nil before))
earliers_more before (g ∷ gs) f =
    ap (λ (l : List (Option ℕ)). first_with (name_of g.says) before ∷ l)
    (earliers_more (before ++ g ∷ []) gs f ∙ ap (λ (l : List model.Link). earliers_after (before ++ g ∷ []) gs ++ first_with (name_of f.says) l ∷ []) (append_assoc before (g ∷ []) gs))

lines_more : (fs : List model.Link) (f : model.Link) (ls : List Link) (l : Link) → IsLine f (first_with (name_of f.says) fs) l → AreLines fs ls → AreLines (fs ++ f ∷ []) (ls ++ l ∷ [])
lines_more fs f ls l i h = record {
  all = map-append outline_seen ls (l ∷ []) ∙ ap (λ (xs : List Outline). xs ++ outline_seen l ∷ []) h.all ∙ ap (λ (x : Outline). map outline_of fs ++ x ∷ []) i.outline ∙ sym (map-append outline_of fs (f ∷ []));
  earlier =
      map-append (λ (x : Link). x.earlier) ls (l ∷ [])
      ∙ ap (λ (xs : List (Option ℕ)). xs ++ l.earlier ∷ []) h.earlier
      ∙ ap (λ (o : Option ℕ). earliers fs ++ o ∷ []) i.earlier_is
      ∙ sym (earliers_more [] fs f);
  names =
      map-append (λ (x : Link). x.name.items) ls (l ∷ [])
      ∙ ap (λ (xs : List (List ℕ)). xs ++ l.name.items ∷ []) h.names
      ∙ ap (λ (n : List ℕ). map (λ (x : model.Link). text_of x.says) fs ++ n ∷ []) i.name_is
      ∙ sym (map-append (λ (x : model.Link). text_of x.says) fs (f ∷ []));
}

key_is : (a b : Canonical) → canonical_key a ≡ canonical_key b → a ≡ b
unfolding canonical_key
key_is (Characters x) (Characters y) e = cc
key_is (Characters x) (Undecoded y) e = cc
key_is (Undecoded x) (Characters y) e = cc
key_is (Undecoded x) (Undecoded y) e = cc

ties : (o : Ordering) → is_eq o ≡ true → o ≡ Equal
ties o h = grind (arith, common_steps)

-- a name is that of a key exactly where its canonical name is the same
key_same : (a b : Canonical) → is_eq (canonical_cmp a b) ≡ bytes_eq (canonical_key b) (canonical_key a)
key_same a b = same_bools (is_eq (canonical_cmp a b)) (bytes_eq (canonical_key b) (canonical_key a))
    (λ h. same_name (canonical_key b) (canonical_key a) (ap canonical_key (sym (equal_names a b (ties (canonical_cmp a b) h)))))
    (λ h. ap is_eq (same_order a b (sym (key_is b a (name_same (canonical_key b) (canonical_key a) h)))))

told_more : (old new : Canonical → Option ℕ) (c : Canonical) (fs : List model.Link) (f : model.Link) (ls ms : List Link) (l : Link) (o : Option ℕ)
    → name_of f.says ≡ canonical_key c → o ≡ old c → Learns old new (λ d. is_eq (canonical_cmp c d)) (f.place - 1) → IsLine f o l → ms ≡ ls ++ l ∷ []
    → AreTold old fs ls → AreTold new (fs ++ f ∷ []) ms
told_more old new c fs f ls ms l o n k learns i m h = record {
  lines = subst (AreLines (fs ++ f ∷ [])) (sym m) (lines_more fs f ls l (subst (λ (x : Option ℕ). IsLine f x l) known i) h.lines);
  known_is = λ d. learns.each d
      ∙ ap (λ (x : Option ℕ). cond (is_none x) (cond (is_eq (canonical_cmp c d)) (Some (f.place - 1)) None) x) (h.known_is d)
      ∙ ap (λ (b : Bool). cond (is_none (first_with (canonical_key d) fs)) (cond b (Some (f.place - 1)) None) (first_with (canonical_key d) fs)) (key_same c d ∙ ap (bytes_eq (canonical_key d)) (sym n))
      ∙ sym (first_more (canonical_key d) fs f);
}
  where
    known : o ≡ first_with (name_of f.says) fs
    known = k ∙ h.known_is c ∙ ap (λ (x : List ℕ). first_with x fs) (sym n)

-- no link more
pub told_same : (known : Canonical → Option ℕ) (fs : List model.Link) (p : Placed) (ls : List Link) → is_live p.1 ≡ false → AreTold known fs ls → AreTold known (fs ++ live_link p) ls
told_same known fs p ls dead h =
    subst (λ (xs : List model.Link). AreTold known xs ls) (sym (append-nil fs) ∙ ap (λ (b : Bool). fs ++ cond b (fid_link p ∷ []) []) (sym dead)) h

pub told_live : (old new : Canonical → Option ℕ) (p : Placed) (fs : List model.Link) (ls ms : List Link) (l : Link) (o : Option ℕ)
    → is_live p.1 ≡ true → o ≡ old (canonical (name p.1)) → Learns old new (λ d. is_eq (canonical_cmp (canonical (name p.1)) d)) p.0 → IsLine (fid_link p) o l → ms ≡ ls ++ l ∷ []
    → AreTold old fs ls → AreTold new (fs ++ live_link p) ms
told_live old new p fs ls ms l o live k learns i m h =
    subst (λ (xs : List model.Link). AreTold new xs ms) (ap (λ (b : Bool). fs ++ cond b (fid_link p ∷ []) []) (sym live))
    (told_more old new (canonical (name p.1)) fs (fid_link p) ls ms l o refl k
    (subst (Learns old new (λ d. is_eq (canonical_cmp (canonical (name p.1)) d))) one_less learns) i m h)
  where
    one_less : p.0 ≡ suc p.0 - 1
    one_less = omega arith

-- ---- what is learnt of a name
pub learnt_before : (old : Canonical → Option ℕ) (name : Canonical) (at : ℕ) → is_none (old name) ≡ false → Learns old old (λ c. is_eq (canonical_cmp name c)) at
learnt_before old name at k = record { each = λ c. by c (old c) refl }
  where
    by : (c : Canonical) (o : Option ℕ) → old c ≡ o → o ≡ cond (is_none o) (cond (is_eq (canonical_cmp name c)) (Some at) None) o
    by c (Some x) e = refl
    by c None e = go (is_eq (canonical_cmp name c)) refl
      where
        go : (b : Bool) → is_eq (canonical_cmp name c) ≡ b → None ≡ cond b (Some at) None
        go false h = refl
        go true h = absurd (false≢true (sym k ∙ ap (λ (d : Canonical). is_none (old d)) (equal_names name c (ties (canonical_cmp name c) h)) ∙ ap (λ (o : Option ℕ). is_none o) e))

pub learnt_now : (old new : Canonical → Option ℕ) (name : Canonical) (at : ℕ) → old name ≡ None → ((c : Canonical) → new c ≡ cond (is_eq (canonical_cmp name c)) (Some at) (old c))
    → Learns old new (λ c. is_eq (canonical_cmp name c)) at
learnt_now old new name at k h = record { each = λ c. h c ∙ by c (is_eq (canonical_cmp name c)) refl }
  where
    by : (c : Canonical) (b : Bool) → is_eq (canonical_cmp name c) ≡ b → cond b (Some at) (old c) ≡ cond (is_none (old c)) (cond b (Some at) None) (old c)
    by c false e = stays (old c)
      where
        stays : (o : Option ℕ) → o ≡ cond (is_none o) None o
        stays None = refl
        stays (Some x) = refl
    by c true e = ap (λ (o : Option ℕ). cond (is_none o) (Some at) o) (sym (ap old (sym (equal_names name c (ties (canonical_cmp name c) e))) ∙ k))

-- ---- a scan of a content, of which some FIDs are left
pub record InScan (o : Option Addr) (all left : List Placed) (known : Canonical → Option ℕ) (ls : List Link) : Type 0 where
  pub done : List Placed
  pub split : all ≡ done ++ left
  pub told : AreTold known (pointer_links o ++ map fid_link (filter (λ p. is_live p.1) done)) ls

-- some FIDs were before those that are left
pub record IsPast (all left : List Placed) : Type 0 where
  pub done : List Placed
  pub split : all ≡ done ++ left

no_pointer : (o : Option Addr) (c : Canonical) → None ≡ first_with (canonical_key c) (pointer_links o)
unfolding first_with canonical_key
no_pointer None c = refl
no_pointer (Some a) (Characters cs) = refl
no_pointer (Some a) (Undecoded bs) = refl

pub scan_begins : (o : Option Addr) (all : List Placed) (known : Canonical → Option ℕ) (ls : List Link) → ((c : Canonical) → known c ≡ None) → AreLines (pointer_links o) ls → InScan o all all known ls
scan_begins o all known ls none h = record {
  done = [];
  split = refl;
  told = record {
    lines = subst (λ (fs : List model.Link). AreLines fs ls) (sym (append-nil (pointer_links o))) h;
    known_is = λ c. none c ∙ no_pointer o c ∙ ap (first_with (canonical_key c)) (sym (append-nil (pointer_links o)));
  };
}

pub past_more : (all left rest : List Placed) (p : Placed) → left ≡ p ∷ rest → IsPast all left → IsPast all rest
past_more all left rest p e h = record { done = h.done ++ p ∷ []; split = h.split ∙ ap (λ (l : List Placed). h.done ++ l) e ∙ sym (append_assoc h.done (p ∷ []) rest) }

live_more : (done : List Placed) (p : Placed) → map fid_link (filter (λ q. is_live q.1) (done ++ p ∷ [])) ≡ map fid_link (filter (λ q. is_live q.1) done) ++ live_link p
live_more done p =
    ap (map fid_link) (filter-append (λ q. is_live q.1) done (p ∷ []))
    ∙ map-append fid_link (filter (λ q. is_live q.1) done) (filter (λ q. is_live q.1) (p ∷ []))
    ∙ ap (λ (l : List model.Link). map fid_link (filter (λ q. is_live q.1) done) ++ l) (one (is_live p.1))
  where
    one : (b : Bool) → map fid_link (cond b (p ∷ []) []) ≡ cond b (fid_link p ∷ []) []
    one true = refl
    one false = refl

pub scan_more : (o : Option Addr) (all left rest : List Placed) (p : Placed) (old new : Canonical → Option ℕ) (ls ms : List Link) → left ≡ p ∷ rest
    → ((fs : List model.Link) → AreTold old fs ls → AreTold new (fs ++ live_link p) ms) → InScan o all left old ls → InScan o all rest new ms
scan_more o all left rest p old new ls ms e more h = record {
  done = h.done ++ p ∷ [];
  split = h.split ∙ ap (λ (l : List Placed). h.done ++ l) e ∙ sym (append_assoc h.done (p ∷ []) rest);
  told =
      let front : List model.Link = map fid_link (filter (λ q. is_live q.1) h.done) in
      subst (λ (fs : List model.Link). AreTold new fs ms) (append_assoc (pointer_links o) front (live_link p) ∙ ap (λ (fs : List model.Link). pointer_links o ++ fs) (sym (live_more h.done p)))
      (more (pointer_links o ++ front) h.told);
}

pub scan_ends : (o : Option Addr) (size : ℕ) (content : List ℕ) (left : List Placed) (known : Canonical → Option ℕ) (ls : List Link) → left ≡ []
    → InScan o (fids size content) left known ls → AreLines (pointer_links o ++ fid_links size content) ls
unfolding fid_links
scan_ends o size content left known ls e h =
    subst (λ (fs : List Placed). AreLines (pointer_links o ++ map fid_link (filter (λ q. is_live q.1) fs)) ls) (sym (h.split ∙ ap (λ (l : List Placed). h.done ++ l) e ∙ append-nil h.done)) h.told.lines

-- a FID stands within its content
below : (size at passed : ℕ) (bytes : List ℕ) (p : Placed) → Member p (fids_from size at passed bytes) → p.0 < at + length bytes
unfolding fids_from taken
below size at passed [] p m = absurd m
below size at zero (b ∷ bs) p m = go (λ n k. below size (suc at) n bs p k) (fid_at size (b ∷ bs)) m
  where
    go : ((n : ℕ) → Member p (fids_from size (suc at) n bs) → p.0 < suc at + length bs) → (f : Option (List ℕ)) → Member p (taken at f (λ n. fids_from size (suc at) n bs)) → p.0 < at + suc (length bs)
    go rec None k = let r = rec 3 k in omega (arith, r)
    go rec (Some fid) (inl e) = let r = ap (λ (q : Placed). q.0) e in omega (arith, r)
    go rec (Some fid) (inr k) = let r = rec (length fid - 1) k in omega (arith, r)
below size at (suc passed) (b ∷ bs) p m = let r = below size (suc at) passed bs p m in omega (arith, r)

pub stands_low : (size : ℕ) (content : List ℕ) (left rest : List Placed) (p : Placed) → left ≡ p ∷ rest → IsPast (fids size content) left → p.0 < length content
stands_low size content left rest p e h =
    let r = below size 0 0 content p (subst (λ (l : List Placed). Member p l) (sym (h.split ∙ ap (λ (l : List Placed). h.done ++ l) e)) (member_right h.done (p ∷ rest) p (inl refl))) in
    omega (arith, r)

-- ---- a pointer alone, and no link
no_lines : AreLines [] []
unfolding earliers_after
no_lines = record { all = refl; earlier = refl; names = refl }

first_none : (a : Addr) → None ≡ first_with (name_of (pointer_link a).says) []
unfolding first_with
first_none a = refl

pub pointer_alone : (a : Addr) (l : Link) (ls : List Link) → ls ≡ l ∷ [] → l.place ≡ 0 → l.target ≡ a → l.room ≡ 0 → l.earlier ≡ None → l.name.items ≡ [] → AreLinks (pointer_link a ∷ []) ls
pointer_alone a l ls e p t r k n = named_lines (pointer_link a ∷ []) ls (subst (AreLines (pointer_link a ∷ [])) (sym e) (lines_more [] (pointer_link a) [] l (record { outline = line; earlier_is = k ∙ first_none a; name_is = n }) no_lines))
  where
    line : outline_seen l ≡ outline_of (pointer_link a)
    line = cc

pub no_links : (ls : List Link) → ls ≡ [] → AreLinks [] ls
no_links ls e = subst (AreLinks []) (sym e) (named_lines [] [] no_lines)
