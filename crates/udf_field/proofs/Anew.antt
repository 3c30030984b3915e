-- Tags at another location, and tags made anew.
use Rattle.std.proofs.Common.{◌≡◌, ℕ, ◌+◌, ◌-◌, ◌^◌, ◌<◌, ◌≤◌, arith, ◌∙◌, ap, List, ◌∷◌, ◌++◌, length, take, drop, set, Some, IsTrue}
use Rattle.std.proofs.lemmas.List.{set_split}
use Rattle.udf_model.specs.Bytes.{with_number}
use Rattle.udf_model.specs.Crc.{crc_of}
use Rattle.udf_model.specs.Tag.{checksum_of, identifier, is_whole, id_at, relocated, retagged, summed}
use Rattle.udf_model.proofs.Written.{number_length}
use Rattle.udf_model.proofs.Relocated.{relocated_id}
use Rattle.udf_model.proofs.Retagged.{found_by_crc}

pub is_relocated : (at total : ℕ) (area mid : List ℕ) → 16 ≤ length area → mid ≡ with_number 4 12 at area → total ≡ checksum_of mid
    → set mid 4 total ≡ relocated at area
unfolding relocated summed
is_relocated at total area mid room first is =
    let long : length mid ≡ length area = ap length first ∙ number_length 4 12 at area (omega arith) in
    set_split mid 4 total (omega arith)
    ∙ ap (λ byte. take 4 mid ++ (byte ∷ drop 5 mid)) is ∙ ap (λ xs. take 4 xs ++ (checksum_of xs ∷ drop 5 xs)) first

pub found_there : (at total : ℕ) (area mid : List ℕ) → 16 ≤ length area → at < 2 ^ 32 → mid ≡ with_number 4 12 at area → total ≡ checksum_of mid
    → IsTrue (is_whole area) → id_at at (set mid 4 total) ≡ Some (identifier area)
found_there at total area mid room fits first is whole =
    ap (id_at at) (is_relocated at total area mid room first is) ∙ relocated_id at area room fits whole

pub is_retagged : (at many crc : ℕ) (area mid last : List ℕ) → crc ≡ crc_of (take (16 + many - 16) (drop 16 area))
    → mid ≡ with_number 2 8 crc (with_number 2 10 many area) → last ≡ relocated at mid → last ≡ retagged at many area
unfolding retagged
is_retagged at many crc area mid last is first moved =
    moved ∙ ap (relocated at) first
    ∙ ap (λ n. relocated at (with_number 2 8 n (with_number 2 10 many area)))
    (is ∙ ap (λ n. crc_of (take n (drop 16 area))) (let e : 16 + many - 16 ≡ many = omega arith in e))

pub found_anew : (at many crc : ℕ) (area mid last : List ℕ) → 16 + many ≤ length area → many < 2 ^ 16 → at < 2 ^ 32 → crc < 2 ^ 16
    → crc ≡ crc_of (take (16 + many - 16) (drop 16 area)) → mid ≡ with_number 2 8 crc (with_number 2 10 many area) → last ≡ relocated at mid
    → id_at at last ≡ Some (identifier area)
found_anew at many crc area mid last room fits place small is first moved =
    let same : crc ≡ crc_of (take many (drop 16 area)) = is ∙ ap (λ n. crc_of (take n (drop 16 area))) (let e : 16 + many - 16 ≡ many = omega arith in e) in
    ap (id_at at) (is_retagged at many crc area mid last is first moved) ∙ found_by_crc at many area room fits place (omega arith)
