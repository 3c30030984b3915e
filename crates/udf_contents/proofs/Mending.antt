-- Which kept directories need contents anew, one entry after another.
use Rattle.std.proofs.Common.{◌≡◌, ℕ, zero, suc, ◌+◌, ◌<◌, List, [], ◌∷◌, ◌++◌, length, take, get_or, Bool, true, false, ◌&&◌, Option, Some, None, refl, sym, ap, ◌∙◌, subst, arith}
use Rattle.std.specs.Prelude.{is_some, slice_get}
use Rattle.std.proofs.lemmas.List.{length-take, take_more}
use Rattle.std.proofs.lemmas.Option.{same_Some, get_or_from_slice_get, slice_get_within}
use Rattle.udf_field.specs.declared.address.Addr.{Addr}
use Rattle.udf_file_model.specs.Listing.{Volume}
use Rattle.udf_tree_model.specs.Frame.{Frame, setting_of, tree_of}
use Rattle.udf_tree_model.specs.Node.{Setting, Tree}
use Rattle.udf_tree_model.specs.Content.{mended_content}
use Rattle.udf_tree_model.specs.Laws.{HasSoundStarts}
use Rattle.udf_tree_model.proofs.Finding.{volume_within}
use Rattle.udf_tree_model.proofs.Keeping.{kept_sound}
use Rattle.udf_contents.specs.declared.contents.MendedContent.{MendedContent}
use Rattle.udf_held.specs.declared.held.Held.{Held}
use Rattle.udf_kept.specs.declared.keeping.Keeping.{Keeping}
use Rattle.udf_contents.specs.Contents.{AreContentsOf, IsContent}
use Rattle.udf_held.specs.Held.{IsHeld}
use Rattle.udf_kept.specs.Keeping.{AreKeptOf, IsKeeping}
use Rattle.udf_contents.specs.Stays.{AreMends, IsMend, NeedsMend}

-- how the entry at an index is kept
pub keeping_there : (s : Setting) (t : Tree) (all hs : List Held) (ks : List (Option Keeping)) (i : ℕ) (h : Held) → AreKeptOf s t all hs ks → slice_get hs i ≡ Some h
    → (k : Option Keeping) × (slice_get ks i ≡ Some k) × IsKeeping s t all h k
keeping_there s t all [] ks i h k e = cc
keeping_there s t all (m ∷ ms) [] i h k e = absurd k
keeping_there s t all (m ∷ ms) (y ∷ ys) zero h k e = (y, refl, subst (λ (z : Held). IsKeeping s t all z y) (same_Some m h e) k.0)
keeping_there s t all (m ∷ ms) (y ∷ ys) (suc i) h k e = keeping_there s t all ms ys i h k.1 e

pub kept_long : (s : Setting) (t : Tree) (all hs : List Held) (ks : List (Option Keeping)) → AreKeptOf s t all hs ks → length hs ≡ length ks
kept_long s t all [] [] k = refl
kept_long s t all [] (y ∷ ys) k = absurd k
kept_long s t all (m ∷ ms) [] k = absurd k
kept_long s t all (m ∷ ms) (y ∷ ys) k = ap (λ (n : ℕ). suc n) (kept_long s t all ms ys k.1)

pub got : {X : Type 0} (xs : List X) (i : ℕ) (x : X) → i < length xs → x ≡ get_or xs i x → slice_get xs i ≡ Some x
got [] i x l e = absurd (omega (arith, l))
got (y ∷ ys) zero x l e = ap Some (sym e)
got (y ∷ ys) (suc i) x l e = got ys i x (omega (arith, l)) e

mends_push : (f : Frame) (v : Volume) (hs : List Held) (ks : List (Option Keeping)) (ms : List (Option Addr)) (h : Held) (k : Option Keeping) (m : Option Addr) → length hs ≡ length ks → AreMends f v hs ks ms → IsMend f v h k m
    → length ks ≡ length ms → AreMends f v (hs ++ h ∷ []) (ks ++ k ∷ []) (ms ++ m ∷ [])
mends_push f v [] [] [] h k m l a i n = (i, tt)
mends_push f v [] [] (z ∷ zs) h k m l a i n = absurd (omega (arith, n))
mends_push f v [] (y ∷ ys) ms h k m l a i n = absurd (omega (arith, l))
mends_push f v (x ∷ xs) [] ms h k m l a i n = absurd a
mends_push f v (x ∷ xs) (y ∷ ys) [] h k m l a i n = absurd a
mends_push f v (x ∷ xs) (y ∷ ys) (z ∷ zs) h k m l a i n = (a.0, mends_push f v xs ys zs h k m (omega (arith, l)) a.1 i (omega (arith, n)))

pub mends_more : (f : Frame) (v : Volume) (hs : List Held) (ks : List (Option Keeping)) (ms new : List (Option Addr)) (i : ℕ) (h : Held) (k : Option Keeping) (m : Option Addr)
    → i < length hs → h ≡ get_or hs i h → slice_get ks i ≡ Some k → new ≡ ms ++ m ∷ [] → length ms ≡ i → IsMend f v h k m → AreMends f v (take i hs) (take i ks) ms
    → AreMends f v (take (i + 1) hs) (take (i + 1) ks) new
mends_more f v hs ks ms new i h k m l is at push long mend was =
    let low : i < length ks = slice_get_within ks i k at in
    let held : take (i + 1) hs ≡ take i hs ++ h ∷ [] = take_more hs i h l ∙ ap (λ (x : Held). take i hs ++ x ∷ []) (sym is) in
    let kept : take (i + 1) ks ≡ take i ks ++ k ∷ [] = take_more ks i k low ∙ ap (λ (x : Option Keeping). take i ks ++ x ∷ []) (get_or_from_slice_get ks i k k at) in
    let first = length-take i hs in
    let second = length-take i ks in
    subst (λ (r : List Held). AreMends f v r (take (i + 1) ks) new) (sym held)
    (subst (λ (r : List (Option Keeping)). AreMends f v (take i hs ++ h ∷ []) r new) (sym kept)
    (subst (AreMends f v (take i hs ++ h ∷ []) (take i ks ++ k ∷ [])) (sym push)
    (mends_push f v (take i hs) (take i ks) ms h k m (omega (arith, first, second, l, low)) was mend (omega (arith, second, low, long)))))

-- what is told of the entry at an index
pub mend_there : (f : Frame) (v : Volume) (hs : List Held) (ks : List (Option Keeping)) (ms : List (Option Addr)) (i : ℕ) (h : Held) (k : Option Keeping) → AreMends f v hs ks ms → slice_get hs i ≡ Some h
    → slice_get ks i ≡ Some k → (m : Option Addr) × (slice_get ms i ≡ Some m) × IsMend f v h k m
mend_there f v [] ks ms i h k a e d = cc
mend_there f v (x ∷ xs) [] ms i h k a e d = absurd a
mend_there f v (x ∷ xs) (y ∷ ys) [] i h k a e d = absurd a
mend_there f v (x ∷ xs) (y ∷ ys) (z ∷ zs) zero h k a e d =
    (z, refl, subst (λ (q : Held). IsMend f v q k z) (same_Some x h e) (subst (λ (q : Option Keeping). IsMend f v x q z) (same_Some y k d) a.0))
mend_there f v (x ∷ xs) (y ∷ ys) (z ∷ zs) (suc i) h k a e d = mend_there f v xs ys zs i h k a.1 e d

-- ---- the contents themselves
needed : (f : Frame) (v : Volume) (h : Held) (k : Option Keeping) (above : Addr) → IsMend f v h k (Some above) → NeedsMend f v h above
needed f v h k above m = by (is_some k && (h.directory && is_some h.shape)) refl
  where
    by : (b : Bool) → (is_some k && (h.directory && is_some h.shape)) ≡ b → NeedsMend f v h above
    by true e = m.of_kept e
    by false e = let n : Some above ≡ None = m.of_other e in absurd cc

pub needs : (f : Frame) (v : Volume) (h : Held) (k : Option Keeping) (m : Option Addr) (above : Addr) → IsMend f v h k m → m ≡ Some above → NeedsMend f v h above
needs f v h k m above i e = needed f v h k above (subst (IsMend f v h k) e i)

pub stays_there : (f : Frame) (v : Volume) (h : Held) (k : Option Keeping) (m : Option Addr) → IsMend f v h k m → m ≡ None → IsContent f v h k None
stays_there f v h k m i e = let j = subst (IsMend f v h k) e i in record { of_kept = λ q. j.of_kept q; of_other = λ q. refl }

pub mended_there : (f : Frame) (v : Volume) (h : Held) (k : Option Keeping) (m : Option Addr) (above : Addr) (new : MendedContent) → IsMend f v h k m → m ≡ Some above → new.bytes.items ≡ mended_content f v h.at
    → IsContent f v h k (Some new)
mended_there f v h k m above new i e b =
    let j = subst (IsMend f v h k) e i in
    record { of_kept = λ q. ((j.of_kept q).broken, b); of_other = λ q. (let n : Some above ≡ None = j.of_other q in absurd cc) }

pub need_sound : (f : Frame) (v : Volume) (h : Held) (above : Addr) → IsHeld (setting_of f v) (tree_of f v) h → HasSoundStarts (setting_of f v) (tree_of f v) → NeedsMend f v h above → h.sound ≡ true
need_sound f v h above i starts n = i.sound_is ∙ kept_sound (setting_of f v) (tree_of f v) (volume_within f v) starts h.at n.kept_is

contents_push : (f : Frame) (v : Volume) (hs : List Held) (ks : List (Option Keeping)) (cs : List (Option MendedContent)) (h : Held) (k : Option Keeping) (c : Option MendedContent) → length hs ≡ length ks
    → AreContentsOf f v hs ks cs → IsContent f v h k c → length ks ≡ length cs → AreContentsOf f v (hs ++ h ∷ []) (ks ++ k ∷ []) (cs ++ c ∷ [])
contents_push f v [] [] [] h k c l a i n = (i, tt)
contents_push f v [] [] (z ∷ zs) h k c l a i n = absurd a
contents_push f v [] (y ∷ ys) cs h k c l a i n = absurd a
contents_push f v (x ∷ xs) [] cs h k c l a i n = absurd a
contents_push f v (x ∷ xs) (y ∷ ys) [] h k c l a i n = absurd a
contents_push f v (x ∷ xs) (y ∷ ys) (z ∷ zs) h k c l a i n = (a.0, contents_push f v xs ys zs h k c (omega (arith, l)) a.1 i (omega (arith, n)))

pub contents_more : (f : Frame) (v : Volume) (hs : List Held) (ks : List (Option Keeping)) (cs new : List (Option MendedContent)) (i : ℕ) (h : Held) (k : Option Keeping) (c : Option MendedContent)
    → i < length hs → h ≡ get_or hs i h → slice_get ks i ≡ Some k → new ≡ cs ++ c ∷ [] → length cs ≡ i → IsContent f v h k c → AreContentsOf f v (take i hs) (take i ks) cs
    → AreContentsOf f v (take (i + 1) hs) (take (i + 1) ks) new
contents_more f v hs ks cs new i h k c l is at push long content was =
    let low : i < length ks = slice_get_within ks i k at in
    let held : take (i + 1) hs ≡ take i hs ++ h ∷ [] = take_more hs i h l ∙ ap (λ (x : Held). take i hs ++ x ∷ []) (sym is) in
    let kept : take (i + 1) ks ≡ take i ks ++ k ∷ [] = take_more ks i k low ∙ ap (λ (x : Option Keeping). take i ks ++ x ∷ []) (get_or_from_slice_get ks i k k at) in
    let first = length-take i hs in
    let second = length-take i ks in
    subst (λ (r : List Held). AreContentsOf f v r (take (i + 1) ks) new) (sym held)
    (subst (λ (r : List (Option Keeping)). AreContentsOf f v (take i hs ++ h ∷ []) r new) (sym kept)
    (subst (AreContentsOf f v (take i hs ++ h ∷ []) (take i ks ++ k ∷ [])) (sym push)
    (contents_push f v (take i hs) (take i ks) cs h k c (omega (arith, first, second, l, low)) was content (omega (arith, second, low, long)))))
