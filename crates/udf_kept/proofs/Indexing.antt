-- The positions of entries by their addresses, one entry after another.
use Rattle.std.proofs.Common.{◌≡◌, ◌⊎◌, ℕ, zero, suc, ◌+◌, ◌<◌, List, [], ◌∷◌, ◌++◌, length, take, get_or, Bool, true, false, cond, Option, Some, None, refl, sym, ap, ◌∙◌, subst, inl, inr, arith}
use Rattle.std.specs.Ordering.{is_eq}
use Rattle.std.specs.List.{slice_get}
use Rattle.std.proofs.lemmas.Grind.{common_steps}
use Rattle.std.proofs.lemmas.List.{length-take, take_more}
use Rattle.std.proofs.lemmas.Option.{same_Some, slice_get_within}
use Rattle.udf_field.specs.declared.address.Addr.{Addr}
use Rattle.udf_file_model.specs.Address.{same_addr}
use Rattle.udf_tree_model.specs.Among.{Member}
use Rattle.udf_tree_model.proofs.Members.{member_append}
use Rattle.udf_tree_model.proofs.Places.{same_address, address_same}
use Rattle.udf_held.specs.declared.held.Held.{Held}
use Rattle.udf_kept.specs.Fitted.{at_of}
use Rattle.udf_kept.specs.Indexed.{IsIndex}
use Rattle.udf_found.specs.Order.{addr_cmp}

-- the order of addresses tells which are the same
pub same_order : (a b : Addr) → is_eq (addr_cmp a b) ≡ same_addr a b
same_order a b = grind (arith, common_steps)

pub order_same : (a b : Addr) → is_eq (addr_cmp a b) ≡ true → a ≡ b
order_same a b e = same_address a b (sym (same_order a b) ∙ e)

pub order_apart : (a b : Addr) → is_eq (addr_cmp a b) ≡ false → a ≡ b → ⊥
order_apart a b e i = apart (same_addr a b) (sym (same_order a b) ∙ e) (address_same a b i)
  where
    apart : (t : Bool) → t ≡ false → t ≡ true → ⊥
    apart true f g = cc
    apart false f g = cc

at_front : (hs : List Held) (h : Held) (i : ℕ) (a : Addr) → at_of hs i ≡ Some a → at_of (hs ++ h ∷ []) i ≡ Some a
at_front [] h i a e = cc
at_front (x ∷ xs) h zero a e = e
at_front (x ∷ xs) h (suc i) a e = at_front xs h i a e

at_end : (hs : List Held) (h : Held) → at_of (hs ++ h ∷ []) (length hs) ≡ Some h.at
at_end [] h = refl
at_end (x ∷ xs) h = at_end xs h

pub index_begins : (f : Addr → Option ℕ) → ((a : Addr) → f a ≡ None) → IsIndex [] f
index_begins f e = record { there = λ a i k. let n = e a in absurd cc; all = λ a k h m t. m }

-- one entry more
pub index_more : (hs : List Held) (h : Held) (f g : Addr → Option ℕ) → IsIndex hs f → ((a : Addr) → g a ≡ cond (is_eq (addr_cmp h.at a)) (Some (length hs)) (f a)) → IsIndex (hs ++ h ∷ []) g
index_more hs h f g was now = record {
  there = λ a i e. there a i (is_eq (addr_cmp h.at a)) refl (sym (now a) ∙ e);
  all = λ a e x m t. all a x (is_eq (addr_cmp h.at a)) refl (sym (now a) ∙ e) (member_append hs (h ∷ []) x m) t;
}
  where
    there : (a : Addr) (i : ℕ) (b : Bool) → is_eq (addr_cmp h.at a) ≡ b → cond b (Some (length hs)) (f a) ≡ Some i → at_of (hs ++ h ∷ []) i ≡ Some a
    there a i true s e =
        subst (λ (n : ℕ). at_of (hs ++ h ∷ []) n ≡ Some a) (same_Some (length hs) i e) (at_end hs h ∙ ap Some (order_same h.at a s))
    there a i false s e = at_front hs h i a (was.there a i e)

    all : (a : Addr) (x : Held) (b : Bool) → is_eq (addr_cmp h.at a) ≡ b → cond b (Some (length hs)) (f a) ≡ None → Member x hs ⊎ Member x (h ∷ []) → x.at ≡ a → ⊥
    all a x true s e m t = cc
    all a x false s e (inl m) t = was.all a e x m t
    all a x false s e (inr (inl i)) t = order_apart h.at a s (ap (λ (y : Held). y.at) (sym i) ∙ t)
    all a x false s e (inr (inr m)) t = m

-- the same in the loop over the list
pub index_next : (hs : List Held) (i : ℕ) (h : Held) (f g : Addr → Option ℕ) → i < length hs → h ≡ get_or hs i h → IsIndex (take i hs) f
    → ((a : Addr) → g a ≡ cond (is_eq (addr_cmp h.at a)) (Some i) (f a)) → IsIndex (take (i + 1) hs) g
index_next hs i h f g l is was now =
    subst (λ (xs : List Held). IsIndex xs g) (sym (take_more hs i h l ∙ ap (λ (y : Held). take i hs ++ y ∷ []) (sym is)))
    (index_more (take i hs) h f g was (λ a. now a ∙ ap (λ (n : ℕ). cond (is_eq (addr_cmp h.at a)) (Some n) (f a)) long))
  where
    long : i ≡ length (take i hs)
    long = let e = length-take i hs in omega (arith, l, e)

-- what stands at a position
pub held_at : (hs : List Held) (i : ℕ) (a : Addr) → at_of hs i ≡ Some a → (h : Held) × (slice_get hs i ≡ Some h) × (h.at ≡ a)
held_at [] i a e = cc
held_at (x ∷ xs) zero a e = (x, refl, same_Some x.at a e)
held_at (x ∷ xs) (suc i) a e = held_at xs i a e

pub within : (hs : List Held) (i : ℕ) (a : Addr) → at_of hs i ≡ Some a → i < length hs
within hs i a e = let h = held_at hs i a e in slice_get_within hs i h.0 h.1

pub member_of_get : (hs : List Held) (i : ℕ) (h : Held) → slice_get hs i ≡ Some h → Member h hs
member_of_get [] i h e = cc
member_of_get (x ∷ xs) zero h e = inl (sym (same_Some x h e))
member_of_get (x ∷ xs) (suc i) h e = inr (member_of_get xs i h e)
