-- What a cut leaves of an entry.
use Rattle.std.proofs.Common.{◌≡◌, ℕ, true, false, cond, ◌==◌, ◌≤◌, ◌+◌, List, [], ◌∷◌, ◌++◌, length, take, Option, Some, None, arith, sym, ap, ◌∙◌}
use Rattle.std.specs.Prelude.{min}
use Rattle.std.proofs.lemmas.Bool.Decides.{nat_tests}
use Rattle.udf_field.specs.declared.address.Addr.{Addr}
use Rattle.udf_file_model.specs.Cut.{Onward, onward}
use Rattle.udf_file_model.specs.CutBody.{cut_body}
use Rattle.udf_file_model.specs.Descriptors.{Descriptor}
use Rattle.udf_file_model.specs.Entry.{Entry, body_of, entry_header, entry_in, entry_of}
use Rattle.udf_file_model.specs.Wanted.{base_of}
use Rattle.udf_entry.specs.Opened.{IsOpened}
use Rattle.udf_entry.proofs.Bodied.{body_length}
use Rattle.udf_file_plan.specs.Parts.{body_left, embedded_left, first_further}
use Rattle.udf_entry.proofs.InBlock.{entry_is}
use Rattle.udf_file_model.specs.Content.{block_at}
use Rattle.udf_file_model.specs.Descriptors.{descriptors}
use Rattle.udf_file_model.specs.Listing.{Volume, descriptors_in}
use Rattle.udf_file_model.specs.Wanted.{Wanted}
use Rattle.udf_file_mends.specs.Mends.{mended_entry}
use Rattle.udf_file_mends.specs.Spread.{Sited}
use Rattle.udf_wanted.specs.Wanted.{LookAlike, differing}
use Rattle.udf_file_plan.specs.Base.{PutsOf}
use Rattle.udf_file_plan.specs.Chain.{chain, extents_left}
use Rattle.udf_file_plan.specs.Parts.{listed_left}
use Rattle.udf_file_plan.proofs.Overall.{take_least}
use Rattle.udf_file_plan.proofs.Puts.{puts_as, puts_both, puts_there}

zero_test : (b : ℕ) → b ≡ 0 → (b == 0) ≡ true
zero_test b e = grind (arith, nat_tests)

some_test : (b : ℕ) → (b ≡ 0 → ⊥) → (b == 0) ≡ false
some_test b h = grind (arith, nat_tests)

pub further_none : (b : ℕ) (ds : List Descriptor) → b ≡ 0 → None ≡ first_further b ds
unfolding first_further
further_none b ds e = sym (ap (λ t. cond t None (onward b ds)) (zero_test b e))

pub further_some : (b : ℕ) (ds : List Descriptor) → (b ≡ 0 → ⊥) → onward b ds ≡ first_further b ds
unfolding first_further
further_some b ds h = sym (ap (λ t. cond t None (onward b ds)) (some_test b h))

three_test : (k : ℕ) → k ≡ 3 → (k == 3) ≡ true
three_test k e = grind (arith, nat_tests)

other_test : (k : ℕ) → (k ≡ 3 → ⊥) → (k == 3) ≡ false
other_test k h = grind (arith, nat_tests)

pub left_listed : (kind : ℕ) (at : Addr) (body : List ℕ) (b : ℕ) (content : Option (List ℕ)) → (kind ≡ 3 → ⊥) → cut_body kind at b body ≡ body_left kind at body b content
unfolding body_left
left_listed kind at body b content h = sym (ap (λ t. cond t (embedded_left body b content) (cut_body kind at b body)) (other_test kind h))

pub left_content : (kind : ℕ) (at : Addr) (body : List ℕ) (b : ℕ) (content : List ℕ) (given : Option (List ℕ)) → kind ≡ 3 → given ≡ Some content → content ≡ body_left kind at body b given
unfolding body_left
left_content kind at body b content given h is =
    sym (ap (λ t. cond t (embedded_left body b given) (cut_body kind at b body)) (three_test kind h) ∙ ap (embedded_left body b) is)

pub left_front : (kind : ℕ) (at : Addr) (body : List ℕ) (b m : ℕ) (given : Option (List ℕ)) → kind ≡ 3 → given ≡ None → m ≡ min b (length body) → take m body ≡ body_left kind at body b given
unfolding body_left
left_front kind at body b m given h is least =
    take_least b m body (omega (arith, least))
    ∙ sym (ap (λ t. cond t (embedded_left body b given) (cut_body kind at b body)) (three_test kind h) ∙ ap (embedded_left body b) is)

same_some : {A : Type 0} (x y : A) → Some x ≡ Some y → x ≡ y
same_some x y e = cc

pub stated_twice : {A : Type 0} (x y : A) (o : Option A) → Some x ≡ o → o ≡ Some y → x ≡ y
stated_twice x y o e f = same_some x y (e ∙ f)

pub none_some : {A : Type 0} (x : A) (o p : Option A) → o ≡ p → p ≡ Some x → o ≡ None → ⊥
none_some x o p e f g = cc

-- the readable entry in a block with this header
pub entry_there : (location header : ℕ) (block : List ℕ) (e : Entry) → entry_header location block ≡ Some header → entry_of location block ≡ Some e → e ≡ entry_in header block
entry_there location header block e at is = same_some e (entry_in header block) (sym is ∙ entry_is location header block (sym at))

pub body_there : (location header : ℕ) (block body : List ℕ) (e : Entry) → entry_header location block ≡ Some header → entry_of location block ≡ Some e → body ≡ e.body → body ≡ body_of header block
body_there location header block body e at is same = same ∙ ap (λ (z : Entry). z.body) (entry_there location header block e at is)

pub body_room : (header : ℕ) (block body : List ℕ) → IsOpened header block → body ≡ body_of header block → base_of header block + length body ≤ length block
body_room header block body opened is = omega (arith, opened.room, ap length is, body_length header block opened)

-- the block of a cut entry, and then its allocation extents
pub listed_put : (v : Volume) (a : Addr) (e : Entry) (w : Wanted) (many bytes : ℕ) (given : Option (List ℕ)) (old now new : List (ℕ × List ℕ)) (sector header kind : ℕ)
    (block body left : List ℕ) (values : Wanted) (first : Option Onward)
    → v.place a ≡ Some sector → block ≡ v.disk sector → header ≡ e.header → kind ≡ e.kind → body ≡ e.body
    → values ≡ record w { information = bytes; object_size = bytes; body = left } → left ≡ body_left kind a body bytes given → first ≡ first_further bytes (descriptors kind a body)
    → LookAlike now (old ++ differing (λ _. block) ((sector, mended_entry a.block header values block) ∷ []))
    → PutsOf v now new (extents_left v kind (chain (descriptors_in v kind) many first)) → PutsOf v old new (listed_left v a e w many bytes given)
listed_put v a e w many bytes given old now new sector header kind block body left values first place stands at kinds bodies is lefts firsts one more =
    let extents : ℕ → Option Onward → List Sited = λ k f. extents_left v k (chain (descriptors_in v k) many f) in
    let stated : ℕ → Wanted → Sited = λ h z. (a, mended_entry a.block h z (block_at v a)) in
    let now_is : left ≡ body_left e.kind a e.body bytes given =
    lefts ∙ ap (λ k. body_left k a body bytes given) kinds ∙ ap (λ b. body_left e.kind a b bytes given) bodies in
    let first_is : first ≡ first_further bytes (descriptors e.kind a e.body) =
    firsts ∙ ap (λ k. first_further bytes (descriptors k a body)) kinds ∙ ap (λ b. first_further bytes (descriptors e.kind a b)) bodies in
    puts_as v old new (stated header values ∷ extents kind first) (listed_left v a e w many bytes given)
    (puts_both v old now new (stated header values ∷ []) (extents kind first)
    (puts_there v old now a sector block (λ b. mended_entry a.block header values b) place stands one) more)
    (ap (λ h. stated h values ∷ extents kind first) at
    ∙ ap (λ z. stated e.header z ∷ extents kind first) (is ∙ ap (λ b. record w { information = bytes; object_size = bytes; body = b }) now_is)
    ∙ ap (λ f. stated e.header (record w { information = bytes; object_size = bytes; body = body_left e.kind a e.body bytes given }) ∷ extents kind f) first_is
    ∙ ap (λ k. stated e.header (record w { information = bytes; object_size = bytes; body = body_left e.kind a e.body bytes given }) ∷ extents k (first_further bytes (descriptors e.kind a e.body))) kinds)
