-- The descriptors by which a volume is stated are there.
use Rattle.std.proofs.Common.{◌≡◌, ℕ, ◌+◌, ◌<◌, ◌⊎◌, inl, inr, refl, sym, ◌∙◌, ap, List, [], length, Bool, true, false, cond, ◌&&◌, Option, Some, None, eqb, get_or, take, drop}
use Rattle.std.specs.Prelude.{IsSome, unwrap_or, option_map}
use Rattle.std.specs.Str.{bytes_eq}
use Rattle.std.proofs.lemmas.Bool.{and_parts, eqb-true}
use Rattle.std.proofs.lemmas.Option.{slice_get-get_or, slice_get_read}
use Rattle.std.proofs.lemmas.List.Folds.{list_any_none}
use Rattle.udf_volume_model.specs.Sequence.{Descriptor}
use Rattle.udf_volume_model.specs.Kept as model
use Rattle.udf_volume_model.specs.Kept.{has_id, is_complete, kept}
use Rattle.udf_volume_model.specs.Prevailing.{subject_of, is_of, prevailing, prevailing_index}
use Rattle.udf_volume_model.specs.Stated.{volume_information}
use Rattle.udf_volume.specs.declared.leading.TheConstants.{LV_INFO}
use Rattle.udf_volume.specs.Best.{IsBest}
use Rattle.udf_volume.specs.Opened.{sector_in}
use Rattle.udf_volume.proofs.Prevail.{found}

no_subject : (kind : ℕ) (d : Descriptor) → (kind ≡ 1) ⊎ (kind ≡ 6) → d.id ≡ kind → subject_of d ≡ []
unfolding subject_of
no_subject kind d (inl one) e = ap (λ i. cond (eqb i 5) (take 2 (drop 6 d.body)) (cond (eqb i 4) (take 23 (drop 5 d.body)) [])) (e ∙ one)
no_subject kind d (inr six) e = ap (λ i. cond (eqb i 5) (take 2 (drop 6 d.body)) (cond (eqb i 4) (take 23 (drop 5 d.body)) [])) (e ∙ six)

-- a descriptor of a kind that has one subject
one_subject : (kind : ℕ) (d : Descriptor) → (kind ≡ 1) ⊎ (kind ≡ 6) → (b : Bool) → eqb d.id kind ≡ b → is_of kind [] d ≡ b
unfolding is_of
one_subject kind d k false e = ap (λ t. t && bytes_eq (subject_of d) []) e
one_subject kind d k true e =
    ap (λ t. t && bytes_eq (subject_of d) []) e ∙ ap (λ s. bytes_eq s []) (no_subject kind d k (eqb-true _ _ e))

pub is_there : (kind : ℕ) (list : List Descriptor) (found : Option ℕ) → (kind ≡ 1) ⊎ (kind ≡ 6) → has_id kind list ≡ true
    → IsBest kind [] list (length list) found → IsSome found
unfolding has_id
is_there kind list (Some best) k has is = refl
is_there kind list None k has none =
    sym (list_any_none (λ d. eqb d.id kind) list (λ n d lt.
    let x : Descriptor = get_or list n d in
    sym (one_subject kind x k (eqb x.id kind) refl) ∙ none n x lt (slice_get-get_or list n d lt)))
    ∙ has

-- the descriptor at the index that prevails
pub leads_to : (kind : ℕ) (subject : List ℕ) (list : List Descriptor) (index : ℕ) (d : Descriptor) → Some index ≡ prevailing_index kind subject list
    → index < length list → d ≡ get_or list index d → Some d ≡ prevailing kind subject list
leads_to kind subject list index d e lt is = found kind subject list index d e (slice_get_read list _ index d refl lt is)

pub has_both : (limit : ℕ) (list : List Descriptor) → is_complete limit list ≡ true → (has_id 1 list ≡ true) × (has_id 6 list ≡ true)
unfolding is_complete
has_both limit list e =
    let rest = (and_parts _ _ e).1 in
    ((and_parts _ _ rest).0, (and_parts _ _ (and_parts _ _ rest).1).1)

-- the sector of a descriptor that is there is no default
pub sector_is : (volume : model.KeptSequence) (kind : ℕ) (subject : List ℕ) (index sector : ℕ) → Some index ≡ prevailing_index kind subject volume.list
    → sector ≡ (kept volume).start + index → sector ≡ unwrap_or (sector_in volume kind subject) 0
unfolding sector_in
sector_is volume kind subject index sector e is =
    is ∙ ap (λ (o : Option ℕ). unwrap_or (option_map (λ i. (kept volume).start + i) o) 0) e

pub information_is : LV_INFO ≡ volume_information
unfolding volume_information
information_is = refl

-- a sector, where a descriptor prevails
pub some_sector : (volume : model.KeptSequence) (kind : ℕ) (subject : List ℕ) (found : Option ℕ) (index sector : ℕ) → found ≡ prevailing_index kind subject volume.list
    → found ≡ Some index → sector ≡ (kept volume).start + index → Some sector ≡ sector_in volume kind subject
unfolding sector_in
some_sector volume kind subject found index sector e some is =
    ap Some is ∙ ap (option_map (λ i. (kept volume).start + i)) (sym some ∙ e)

pub no_sector : (volume : model.KeptSequence) (kind : ℕ) (subject : List ℕ) (found : Option ℕ) → found ≡ prevailing_index kind subject volume.list
    → found ≡ None → None ≡ sector_in volume kind subject
unfolding sector_in
no_sector volume kind subject found e none = ap (option_map (λ i. (kept volume).start + i)) (sym none ∙ e)
