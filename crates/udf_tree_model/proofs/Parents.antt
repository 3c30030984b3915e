-- The link that keeps an entry.
use Rattle.std.proofs.Common.{◌≡◌, ◌⊎◌, List, [], ◌∷◌, map, Bool, true, false, cond, Some, None, refl, ap, ◌∙◌, subst, inl, inr}
use Rattle.std.specs.List.{filter}
use Rattle.udf_field.specs.declared.address.Addr.{Addr}
use Rattle.udf_tree_model.specs.Link.{Link, target_of}
use Rattle.udf_tree_model.specs.Node.{Tree, Setting, node_at}
use Rattle.udf_tree_model.specs.Found.{leads_to}
use Rattle.udf_tree_model.specs.Chosen.{Rank, comes_before, fitted}
use Rattle.udf_tree_model.specs.Kept.{kept}
use Rattle.udf_tree_model.specs.Parent.{keeping_rank, keeping_in, keeping_over, keeping}
use Rattle.udf_tree_model.specs.Laws.{IsWithin, PlacesDiffer, HasSoundStarts, KeepsBy}
use Rattle.udf_tree_model.proofs.Members.{Member, member_of, contains_of, member_append, member_left, member_right, member_filter, member_filtered, member_map, member_of_map}
use Rattle.udf_tree_model.proofs.Places.{same_address, address_same}
use Rattle.udf_tree_model.proofs.Finding.{found_readable}
use Rattle.udf_tree_model.proofs.Linking.{first_some, first_one}
use Rattle.udf_tree_model.proofs.Keeping.{kept_found}
use Rattle.udf_tree_model.proofs.Choosing.{first_least, none_first, keeps_one}

-- each rank of the list is that of a fitted link of a kept entry
keeping_give : (s : Setting) (t : Tree) (a : Addr) (ds : List Addr) (k : Rank) → Member k (keeping_over s t a ds) → (d : Addr) × (f : Link) × KeepsBy s t a d f × (k ≡ keeping_rank s t d f)
unfolding keeping_over keeping_in
keeping_give s t a [] k m = absurd m
keeping_give s t a (d ∷ ds) k m = go (λ h. keeping_give s t a ds k h) (kept s t d) refl (member_append _ _ k m)
  where
    go : (Member k (keeping_over s t a ds) → (e : Addr) × (f : Link) × KeepsBy s t a e f × (k ≡ keeping_rank s t e f)) → (b : Bool) → kept s t d ≡ b
        → Member k (cond b (map (keeping_rank s t d) (filter (leads_to a) (fitted s t d))) []) ⊎ Member k (keeping_over s t a ds) → (e : Addr) × (f : Link) × KeepsBy s t a e f × (k ≡ keeping_rank s t e f)
    go rest b e (inr h) = rest h
    go rest false e (inl h) = absurd h
    go rest true e (inl h) =
        let r = member_of_map (keeping_rank s t d) (filter (leads_to a) (fitted s t d)) k h in
        let q = member_filter (leads_to a) (fitted s t d) r.0 r.1 in
        (d, r.0, record { holder = e; among = contains_of (fitted s t d) r.0 q.0; leads = same_address (target_of r.0.says) a q.1 }, r.2)

pub keeping_have : (s : Setting) (t : Tree) (a : Addr) (ds : List Addr) (d : Addr) (f : Link) → Member d ds → KeepsBy s t a d f → Member (keeping_rank s t d f) (keeping_over s t a ds)
unfolding keeping_over keeping_in
keeping_have s t a [] d f m h = absurd m
keeping_have s t a (x ∷ xs) d f (inr m) h = member_right _ _ (keeping_rank s t d f) (keeping_have s t a xs d f m h)
keeping_have s t a (x ∷ xs) d f (inl i) h =
    member_left _ _ (keeping_rank s t d f)
    (subst (λ (y : Addr). Member (keeping_rank s t d f) (cond (kept s t y) (map (keeping_rank s t y) (filter (leads_to a) (fitted s t y))) [])) i
    (rw h.holder (member_map (keeping_rank s t d) (filter (leads_to a) (fitted s t d)) f (member_filtered (leads_to a) (fitted s t d) f (member_of (fitted s t d) f h.among) (address_same (target_of f.says) a h.leads)))))

place_of : (s : Setting) (t : Tree) → IsWithin s t → HasSoundStarts s t → (a d : Addr) (f : Link) → KeepsBy s t a d f → Member d s.places
place_of s t w c a d f h = member_of s.places d (w.among d (found_readable s t w d (kept_found s t w c d h.holder)))

pub keeping_by : (s : Setting) (t : Tree) (a : Addr) (x : Rank) → keeping s t a ≡ Some x → (d : Addr) × (f : Link) × KeepsBy s t a d f × (x ≡ keeping_rank s t d f)
unfolding keeping
keeping_by s t a x h = keeping_give s t a s.places x (first_some (keeping_over s t a s.places) x h)

pub keeping_first : (s : Setting) (t : Tree) → IsWithin s t → HasSoundStarts s t → (a : Addr) (x : Rank) → keeping s t a ≡ Some x → (d : Addr) (f : Link) → KeepsBy s t a d f
    → comes_before (keeping_rank s t d f) x ≡ false
unfolding keeping
keeping_first s t w c a x h d f k = first_least (keeping_over s t a s.places) x (keeping_rank s t d f) h (keeping_have s t a s.places d f (place_of s t w c a d f k) k)

pub keeping_none : (s : Setting) (t : Tree) → IsWithin s t → HasSoundStarts s t → (a : Addr) → keeping s t a ≡ None → (d : Addr) (f : Link) → KeepsBy s t a d f → ⊥
unfolding keeping
keeping_none s t w c a h d f k = none_first (keeping_over s t a s.places) (keeping_rank s t d f) h (keeping_have s t a s.places d f (place_of s t w c a d f k) k)

-- a directory is kept by one link
pub keeping_directory : (s : Setting) (t : Tree) → IsWithin s t → HasSoundStarts s t → PlacesDiffer t → (a d : Addr) (f : Link) → KeepsBy s t a d f → (node_at t a).directory ≡ true
    → keeping s t a ≡ Some (keeping_rank s t d f)
unfolding keeping
keeping_directory s t w c p a d f k h =
    first_one (keeping_over s t a s.places) (keeping_rank s t d f) (keeping_have s t a s.places d f (place_of s t w c a d f k) k)
    (λ x m. go x (keeping_give s t a s.places x m))
  where
    go : (x : Rank) → (e : Addr) × (g : Link) × KeepsBy s t a e g × (x ≡ keeping_rank s t e g) → x ≡ keeping_rank s t d f
    go x r =
        let o = keeps_one s t p a r.0 d r.1 f r.2 k h in
        r.3 ∙ ap (λ (z : Addr). keeping_rank s t z r.1) o.0 ∙ ap (keeping_rank s t d) o.1
