-- The flat list of a trimmed entry, read with its trimmed extents, is the cut of its flat list.
use Rattle.std.proofs.Common.{◌≡◌, ℕ, zero, suc, Bool, true, false, cond, ◌+◌, ◌-◌, ◌<◌, ◌≤◌, ◌==◌, ◌&&◌, nat_lt, inl, inr, Option, Some, List, [], ◌∷◌, arith, sym, ◌∙◌, ap, refl, subst}
use Rattle.std.proofs.lemmas.Bool.Decides.{nat_tests}
use Rattle.udf_field.specs.declared.address.Addr.{Addr}
use Rattle.udf_file_model.specs.Address.{same_addr}
use Rattle.udf_file_model.specs.Descriptors.{Descriptor}
use Rattle.udf_file_model.specs.Pieces.{Piece, Extent, Blocks, bytes_in, runs_of, pieces, further, IsAmong}
use Rattle.udf_file_model.specs.Cut.{cut_pieces, trim, Onward, onward}
use Rattle.udf_file_model.proofs.Trimmed.{trim_at, trim_on, trimmed, ComeOnce}

-- one equation per branch
module _ (b : ℕ) (d : Descriptor) (ds : List Descriptor) where
  trim_more : (d.kind == 3) ≡ true → trim b (d ∷ ds) ≡ d ∷ ds
  unfolding trim
  trim_more e = rw e refl

  trim_over : (d.kind == 3) ≡ false → nat_lt d.length b ≡ true → trim b (d ∷ ds) ≡ d ∷ trim (b - d.length) ds
  unfolding trim
  trim_over e f = rw (e, f) refl

  trim_last : (d.kind == 3) ≡ false → nat_lt d.length b ≡ false → trim b (d ∷ ds) ≡ record d { length = b } ∷ []
  unfolding trim
  trim_last e f = rw (e, f) refl

  pub onward_more : (d.kind == 3) ≡ true → onward b (d ∷ ds) ≡ Some (record { next = d.at; left = b })
  unfolding onward
  onward_more e = rw e refl

  pub onward_over : (d.kind == 3) ≡ false → nat_lt d.length b ≡ true → onward b (d ∷ ds) ≡ onward (b - d.length) ds
  unfolding onward
  onward_over e f = rw (e, f) refl

module _ (k : Addr → List Piece) (d : Descriptor) (ds : List Descriptor) where
  pub pieces_more : (d.kind == 3) ≡ true → pieces k (d ∷ ds) ≡ Extent d.at ∷ k d.at
  unfolding pieces
  pieces_more e = rw e refl

  pub pieces_over : (d.kind == 3) ≡ false → pieces k (d ∷ ds) ≡ Blocks d ∷ pieces k ds
  unfolding pieces
  pieces_over e = rw e refl

pub pieces_nil : (k : Addr → List Piece) → pieces k [] ≡ []
unfolding pieces
pieces_nil k = refl

is_some_number : (b : ℕ) → 0 < b → (b == 0) ≡ false
is_some_number b h = grind (arith, nat_tests)

cut_extent_step : (b : ℕ) (x : Addr) (rest : List Piece) → 0 < b → cut_pieces b (Extent x ∷ rest) ≡ Extent x ∷ cut_pieces b rest
unfolding cut_pieces
cut_extent_step b x rest h = rw (is_some_number b h) refl

cut_over : (b : ℕ) (d : Descriptor) (rest : List Piece) → 0 < b → nat_lt d.length b ≡ true → cut_pieces b (Blocks d ∷ rest) ≡ Blocks d ∷ cut_pieces (b - d.length) rest
unfolding cut_pieces
cut_over b d rest h e = rw (is_some_number b h, e) refl

cut_last : (b : ℕ) (d : Descriptor) (rest : List Piece) → 0 < b → nat_lt d.length b ≡ false → cut_pieces b (Blocks d ∷ rest) ≡ Blocks (record d { length = b }) ∷ []
unfolding cut_pieces
cut_last b d rest h e = rw (is_some_number b h, e) refl

abbrev pub size_of : List Piece → ℕ
size_of ps = bytes_in (runs_of ps)

pub size_extent : (x : Addr) (rest : List Piece) → size_of (Extent x ∷ rest) ≡ size_of rest
unfolding runs_of
size_extent x rest = refl

pub size_blocks : (d : Descriptor) (rest : List Piece) → size_of (Blocks d ∷ rest) ≡ d.length + size_of rest
unfolding runs_of
size_blocks d rest = refl

pub size_nil : size_of [] ≡ 0
unfolding runs_of
size_nil = refl

below : (m n : ℕ) → nat_lt m n ≡ true → m < n
below m n h = grind (arith, nat_tests)

abbrev IsCutOn : (Addr → List Piece) → (Addr → List Piece) → ℕ → List Descriptor → Type 0
IsCutOn k j b ds = (o : Onward) → onward b ds ≡ Some o → 0 < o.left → o.left ≤ size_of (k o.next) → j o.next ≡ cut_pieces o.left (k o.next)

-- the pieces of a trimmed body are the cut of its pieces, where what follows is cut too
pub pieces_trim : (k j : Addr → List Piece) (ds : List Descriptor) (b : ℕ) → 0 < b → b ≤ size_of (pieces k ds) → IsCutOn k j b ds
    → pieces j (trim b ds) ≡ cut_pieces b (pieces k ds)
pieces_trim k j [] b p q r = absurd (omega (arith, ap size_of (pieces_nil k), size_nil))
pieces_trim k j (d ∷ ds) b p q r = by_more (d.kind == 3) refl (λ x y z. pieces_trim k j ds (b - d.length) x y z)
  where
    by_length : (d.kind == 3) ≡ false → (l : Bool) → nat_lt d.length b ≡ l
        → (0 < b - d.length → b - d.length ≤ size_of (pieces k ds) → IsCutOn k j (b - d.length) ds → pieces j (trim (b - d.length) ds) ≡ cut_pieces (b - d.length) (pieces k ds))
        → pieces j (trim b (d ∷ ds)) ≡ cut_pieces b (pieces k (d ∷ ds))
    by_length e true f on =
        let l = below d.length b f in
        let z = ap size_of (pieces_over k d ds e) ∙ size_blocks d (pieces k ds) in
        ap (pieces j) (trim_over b d ds e f) ∙ pieces_over j d (trim (b - d.length) ds) e
        ∙ ap (λ t. Blocks d ∷ t) (on (omega arith) (omega (arith, z)) (λ o i. r o (onward_over b d ds e f ∙ i)))
        ∙ sym (cut_over b d (pieces k ds) p f) ∙ ap (cut_pieces b) (sym (pieces_over k d ds e))
    by_length e false f on =
        ap (pieces j) (trim_last b d ds e f) ∙ pieces_over j (record d { length = b }) [] e ∙ ap (λ t. Blocks (record d { length = b }) ∷ t) (pieces_nil j)
        ∙ sym (cut_last b d (pieces k ds) p f) ∙ ap (cut_pieces b) (sym (pieces_over k d ds e))

    by_more : (m : Bool) → (d.kind == 3) ≡ m
        → (0 < b - d.length → b - d.length ≤ size_of (pieces k ds) → IsCutOn k j (b - d.length) ds → pieces j (trim (b - d.length) ds) ≡ cut_pieces (b - d.length) (pieces k ds))
        → pieces j (trim b (d ∷ ds)) ≡ cut_pieces b (pieces k (d ∷ ds))
    by_more true e on =
        let z = ap size_of (pieces_more k d ds e) ∙ size_extent d.at (k d.at) in
        let c : j d.at ≡ cut_pieces b (k d.at) = r (record { next = d.at; left = b }) (onward_more b d ds e) p (omega (arith, z)) in
        ap (pieces j) (trim_more b d ds e) ∙ pieces_more j d ds e ∙ ap (λ t. Extent d.at ∷ t) c
        ∙ sym (cut_extent_step b d.at (k d.at) p) ∙ ap (cut_pieces b) (sym (pieces_more k d ds e))
    by_more false e on = by_length e (nat_lt d.length b) refl on

-- what a body goes on with stands among its pieces
abbrev Follows : (Addr → List Piece) → List Descriptor → Addr → Type 0
Follows k ds x = (y : Addr) → IsAmong y (Extent x ∷ k x) → IsAmong y (pieces k ds)

-- pieces depend on the extents that stand in them alone
pieces_agree : (k j : Addr → List Piece) (ds : List Descriptor) → ((x : Addr) → Follows k ds x → k x ≡ j x) → pieces k ds ≡ pieces j ds
pieces_agree k j [] r = pieces_nil k ∙ sym (pieces_nil j)
pieces_agree k j (d ∷ ds) r = by_more (d.kind == 3) refl (λ z. pieces_agree k j ds z)
  where
    by_more : (m : Bool) → (d.kind == 3) ≡ m → (((x : Addr) → Follows k ds x → k x ≡ j x) → pieces k ds ≡ pieces j ds) → pieces k (d ∷ ds) ≡ pieces j (d ∷ ds)
    by_more true e on =
        let P : Addr → List Piece → Type 0 = λ x l. IsAmong x l in
        pieces_more k d ds e ∙ ap (λ t. Extent d.at ∷ t) (r d.at (λ y i. subst (P y) (sym (pieces_more k d ds e)) i)) ∙ sym (pieces_more j d ds e)
    by_more false e on =
        let P : Addr → List Piece → Type 0 = λ x l. IsAmong x l in
        pieces_over k d ds e ∙ ap (λ t. Blocks d ∷ t) (on (λ x among. r x (λ y i. subst (P y) (sym (pieces_over k d ds e)) (among y i)))) ∙ sym (pieces_over j d ds e)

trim_on_some : (at : Addr → List Descriptor) (q : Option Onward) (o : Onward) (f : Onward → Addr → List Descriptor) → q ≡ Some o
    → trim_on at q f ≡ trim_at o.next (trim o.left (at o.next)) (f o)
unfolding trim_on
trim_on_some at q o f e = rw e refl

pub same_self : (x : Addr) → same_addr x x ≡ true
same_self x = both_true (x.part == x.part) (x.block == x.block) (self x.part) (self x.block)
  where
    self : (n : ℕ) → (n == n) ≡ true
    self n = grind (arith, nat_tests)

    both_true : (a b : Bool) → a ≡ true → b ≡ true → (a && b) ≡ true
    both_true true b e f = f
    both_true false b e f = e

pub same_means : (x y : Addr) → same_addr x y ≡ true → x ≡ y
same_means x y h = split (x.part == y.part) (x.block == y.block) refl refl h
  where
    make : ℕ → ℕ → Addr
    make m n = record { part = m; block = n }

    number : (m n : ℕ) (b : Bool) → (m == n) ≡ b → b ≡ true → m ≡ n
    number m n true e f = grind (arith, nat_tests)
    number m n false e f = absurd (cc)

    join : x.part ≡ y.part → x.block ≡ y.block → x ≡ y
    join p q =
        let one : ℕ → Addr = λ m. record { part = m; block = x.block } in
        let two : ℕ → Addr = λ n. record { part = y.part; block = n } in
        ap one p ∙ ap two q

    split : (a b : Bool) → (x.part == y.part) ≡ a → (x.block == y.block) ≡ b → (a && b) ≡ true → x ≡ y
    split true true e f h = join (number x.part y.part true e refl) (number x.block y.block true f refl)
    split true false e f h = absurd (cc)
    split false b e f h = absurd (cc)

trim_at_here : (x : Addr) (body : List Descriptor) (f : Addr → List Descriptor) → trim_at x body f x ≡ body
unfolding trim_at
trim_at_here x body f = rw (same_self x) refl

trim_at_else : (x : Addr) (body : List Descriptor) (f : Addr → List Descriptor) (y : Addr) → (y ≡ x → ⊥) → f y ≡ trim_at x body f y
unfolding trim_at
trim_at_else x body f y apart = choose (same_addr y x) refl
  where
    choose : (b : Bool) → same_addr y x ≡ b → f y ≡ cond b body (f y)
    choose true e = absurd (apart (same_means y x e))
    choose false e = refl

pub further_zero : (at : Addr → List Descriptor) (x : Addr) → further at zero x ≡ []
unfolding further
further_zero at x = refl

pub further_suc : (at : Addr → List Descriptor) (n : ℕ) (x : Addr) → further at (suc n) x ≡ pieces (further at n) (at x)
unfolding further
further_suc at n x = refl

-- a flat list reads no extents but those that stand in it
pub flat_agree : (at other : Addr → List Descriptor) (n : ℕ) (ds : List Descriptor) → ((x : Addr) → IsAmong x (pieces (further at n) ds) → at x ≡ other x)
    → pieces (further at n) ds ≡ pieces (further other n) ds
flat_agree at other zero ds r = pieces_agree (further at zero) (further other zero) ds (λ x among. further_zero at x ∙ sym (further_zero other x))
flat_agree at other (suc n) ds r = pieces_agree (further at (suc n)) (further other (suc n)) ds (λ x among.
    further_suc at n x
    ∙ flat_agree at other n (at x) (λ y i. r y (among y (inr (let P : List Piece → Type 0 = λ l. IsAmong y l in subst P (sym (further_suc at n x)) i))))
    ∙ ap (pieces (further other n)) (r x (among x (inl refl)))
    ∙ sym (further_suc other n x))

-- the flat list of the trimmed entry, read with the trimmed extents, is the cut flat list
pub flat_trim : (at : Addr → List Descriptor) (n : ℕ) (ds : List Descriptor) (b : ℕ) → 0 < b → b ≤ size_of (pieces (further at n) ds) → ComeOnce at n b ds
    → pieces (further (trimmed at n b ds) n) (trim b ds) ≡ cut_pieces b (pieces (further at n) ds)
unfolding trimmed
flat_trim at zero ds b p q once =
    pieces_trim (further at zero) (further at zero) ds b p q (λ o e x y. absurd (omega (arith, x, y, ap size_of (further_zero at o.next), size_nil)))
flat_trim at (suc n) ds b p q once =
    pieces_trim (further at (suc n)) (further g (suc n)) ds b p q (λ o e x y.
    further_suc g n o.next
    ∙ next o e (flat_trim at n (at o.next) o.left x (omega (arith, y, ap size_of (further_suc at n o.next))) (once o e).1)
    ∙ ap (cut_pieces o.left) (sym (further_suc at n o.next)))
  where
    g : Addr → List Descriptor
    g = trim_on at (onward b ds) (λ o. trimmed at n o.left (at o.next))

    next : (o : Onward) → onward b ds ≡ Some o
        → pieces (further (trimmed at n o.left (at o.next)) n) (trim o.left (at o.next)) ≡ cut_pieces o.left (pieces (further at n) (at o.next))
        → pieces (further (trim_on at (onward b ds) (λ o. trimmed at n o.left (at o.next))) n) (trim_on at (onward b ds) (λ o. trimmed at n o.left (at o.next)) o.next)
        ≡ cut_pieces o.left (pieces (further at n) (at o.next))
    next o e on =
        let body = trim o.left (at o.next) in
        let f = trimmed at n o.left (at o.next) in
        let w = trim_on_some at (onward b ds) o (λ o. trimmed at n o.left (at o.next)) e in
        let P : List Piece → Type 0 = λ l. IsAmong o.next l in
        let Q : Addr → Type 0 = λ z. IsAmong z (pieces (further f n) body) in
        ap (λ (z : Addr → List Descriptor). pieces (further z n) (z o.next)) w
        ∙ ap (pieces (further (trim_at o.next body f) n)) (trim_at_here o.next body f)
        ∙ sym (flat_agree f (trim_at o.next body f) n body (λ x m. trim_at_else o.next body f x (λ i. (once o e).0 (subst P on (subst Q i m)))))
        ∙ on
