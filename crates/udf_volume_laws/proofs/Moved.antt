-- A relocated block says in a sequence what the block says.
use Rattle.std.proofs.Common.{◌≡◌, ℕ, ◌^◌, ◌<◌, ◌≤◌, refl, sym, ◌∙◌, ap, subst, List, length, drop, Some, None, Bool, true, false, cond, eqb}
use Rattle.std.proofs.lemmas.Bool.{eqb-true}
use Rattle.udf_model.specs.Tag.{is_whole, identifier, id_at, whole_id, is_id, relocated}
use Rattle.udf_model.specs.Image.{is_zeros}
use Rattle.udf_model.proofs.Relocated.{relocated_body, relocated_identifier, relocated_location, relocated_whole, found_at}
use Rattle.udf_volume_model.specs.Sequence.{Descriptor, End, Spoiled, Listed, is_listed, view_of, view_by, other_view}

-- a block with a whole tag and this identifier
pub record IsTagged (id : ℕ) (block : List ℕ) : Type 0 where
  pub whole : is_whole block ≡ true
  pub same : identifier block ≡ id

pub moved_tagged : (at id : ℕ) (block : List ℕ) → 16 ≤ length block → IsTagged id block → IsTagged id (relocated at block)
moved_tagged at id block room t = record {
  whole = relocated_whole at block room t.whole;
  same = relocated_identifier at block room ∙ t.same;
}

pub tagged_at : (at id : ℕ) (block : List ℕ) → 16 ≤ length block → at < 2 ^ 32 → IsTagged id block → id_at at (relocated at block) ≡ Some id
tagged_at at id block room fits t =
    let tag = moved_tagged at id block room t in
    found_at at id (relocated at block) tag.whole (relocated_location at block room fits) tag.same

pub tagged_id : (id : ℕ) (block : List ℕ) → IsTagged id block → whole_id block ≡ Some id
unfolding whole_id
tagged_id id block t = ap (λ b. cond b (Some (identifier block)) None) t.whole ∙ ap Some t.same

pub id_tagged : (id : ℕ) (block : List ℕ) → is_id id (whole_id block) ≡ true → IsTagged id block
unfolding whole_id
id_tagged id block = by_whole (is_whole block) refl where
  by_whole : (b : Bool) → is_whole block ≡ b → is_id id (cond b (Some (identifier block)) None) ≡ true → IsTagged id block
  by_whole true w e = record { whole = w; same = eqb-true _ _ e }
  by_whole false w e = absurd (cc)

-- what a listed block tells
pub record Tells (block : List ℕ) (descriptor : Descriptor) : Type 0 where
  pub tagged : IsTagged descriptor.id block
  pub is : descriptor ≡ record { id = descriptor.id; body = drop 16 block }
  pub goes_on : eqb descriptor.id 8 ≡ false
  pub listed : is_listed descriptor.id ≡ true

pub listed_tells : (block : List ℕ) (descriptor : Descriptor) → view_of block ≡ Listed descriptor → Tells block descriptor
unfolding view_of whole_id other_view
listed_tells block descriptor = by_whole (is_whole block) refl where
  by_zeros : (b : Bool) → cond b End Spoiled ≡ Listed descriptor → Tells block descriptor
  by_zeros true e = absurd (cc)
  by_zeros false e = absurd (cc)

  by_listed : (b : Bool) → is_listed (identifier block) ≡ b → is_whole block ≡ true → eqb (identifier block) 8 ≡ false
      → cond b (Listed (record { id = identifier block; body = drop 16 block })) (cond (is_zeros block) End Spoiled) ≡ Listed descriptor
      → Tells block descriptor
  by_listed false test w n e = by_zeros (is_zeros block) e
  by_listed true test w n e =
      let is : record { id = identifier block; body = drop 16 block } ≡ descriptor = cc in
      subst (λ (x : Descriptor). Tells block x) is
      (record { tagged = record { whole = w; same = refl }; is = refl; goes_on = n; listed = test })

  by_eight : (b : Bool) → eqb (identifier block) 8 ≡ b → is_whole block ≡ true
      → cond b End (cond (is_listed (identifier block)) (Listed (record { id = identifier block; body = drop 16 block })) (cond (is_zeros block) End Spoiled)) ≡ Listed descriptor
      → Tells block descriptor
  by_eight true test w e = absurd (cc)
  by_eight false test w e = by_listed (is_listed (identifier block)) refl w test e

  by_whole : (b : Bool) → is_whole block ≡ b → view_by block (cond b (Some (identifier block)) None) ≡ Listed descriptor → Tells block descriptor
  by_whole true w e = by_eight (eqb (identifier block) 8) refl w e
  by_whole false w e = by_zeros (is_zeros block) e

tagged_view : (id : ℕ) (block : List ℕ) → IsTagged id block → eqb id 8 ≡ false → is_listed id ≡ true → view_of block ≡ Listed (record { id = id; body = drop 16 block })
unfolding view_of whole_id
tagged_view id block t n l =
    ap (λ b. view_by block (cond b (Some (identifier block)) None)) t.whole
    ∙ ap (λ i. view_by block (Some i)) t.same
    ∙ ap (λ b. cond b End (cond (is_listed id) (Listed (record { id = id; body = drop 16 block })) (other_view block))) n
    ∙ ap (λ b. cond b (Listed (record { id = id; body = drop 16 block })) (other_view block)) l

pub moved_view : (at : ℕ) (block : List ℕ) (descriptor : Descriptor) → 16 ≤ length block → view_of block ≡ Listed descriptor → view_of (relocated at block) ≡ Listed descriptor
moved_view at block descriptor room e =
    let told = listed_tells block descriptor e in
    tagged_view descriptor.id (relocated at block) (moved_tagged at descriptor.id block room told.tagged) told.goes_on told.listed
    ∙ ap (λ body. Listed (record { id = descriptor.id; body = body })) (relocated_body at block room)
    ∙ ap Listed (sym told.is)

-- a terminator ends a list
pub eight_ends : (block : List ℕ) → whole_id block ≡ Some 8 → view_of block ≡ End
unfolding view_of
eight_ends block e = ap (view_by block) e
