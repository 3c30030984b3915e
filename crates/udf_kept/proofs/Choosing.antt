-- The first of the links that held entries offer to an address is the chosen one.
use Rattle.std.proofs.Common.{◌≡◌, ◌⊎◌, ℕ, List, [], ◌∷◌, map, Bool, true, false, cond, Option, Some, None, refl, sym, ap, ◌∙◌, subst, inl, inr, arith}
use Rattle.std.specs.Prelude.{option_map}
use Rattle.std.specs.List.{filter, flat_map}
use Rattle.std.proofs.lemmas.Bool.Decides.{nat_tests}
use Rattle.udf_field.specs.declared.address.Addr.{Addr}
use Rattle.udf_file_model.specs.Address.{addr, same_addr}
use Rattle.udf_tree_model.specs.Among.{Member}
use Rattle.udf_tree_model.specs.Link as links
use Rattle.udf_tree_model.specs.Link.{target_of}
use Rattle.udf_tree_model.specs.Node.{Setting, Tree}
use Rattle.udf_tree_model.specs.Found.{found, level}
use Rattle.udf_tree_model.specs.Won.{kept_links}
use Rattle.udf_tree_model.specs.Chosen as model
use Rattle.udf_tree_model.specs.Chosen.{chosen, comes_before, first_of_names, named, rank_of}
use Rattle.udf_tree_model.specs.Laws.{IsOffer, IsWithin}
use Rattle.udf_tree_model.proofs.Choosing.{chosen_first, chosen_none, chosen_offer}
use Rattle.udf_tree_model.proofs.Keeping.{sound_found}
use Rattle.udf_tree_model.proofs.Members.{any_gives, contains_of, member_append, member_map, member_of, member_of_map}
use Rattle.udf_tree_model.proofs.Places.{in_flat_map, same_address}
use Rattle.udf_kept.specs.declared.choices.Rank.{Rank}
use Rattle.udf_held.specs.declared.held.Held.{Held}
use Rattle.udf_found.specs.declared.link.Link.{Link}
use Rattle.udf_held.specs.Held.{AreHeld, held_spots}
use Rattle.udf_found.specs.Linked.{AreLinks, Outline, is_first, outline_of, outline_seen}
use Rattle.udf_kept.specs.Offers.{AreChosen, AreFirst, Offer, offer_of, offers_by, offers_in, offers_over, rank_seen}
use Rattle.udf_found.specs.Spot.{Spot, addresses, spot}

-- ---- ranks of which neither comes before the other are one
same_level : (x y : model.Rank) → comes_before x y ≡ false → comes_before y x ≡ false → x.level ≡ y.level
unfolding comes_before
same_level x y h k = grind (arith, nat_tests)

same_part : (x y : model.Rank) → comes_before x y ≡ false → comes_before y x ≡ false → x.holder.part ≡ y.holder.part
unfolding comes_before
same_part x y h k = grind (arith, nat_tests)

same_block : (x y : model.Rank) → comes_before x y ≡ false → comes_before y x ≡ false → x.holder.block ≡ y.holder.block
unfolding comes_before
same_block x y h k = grind (arith, nat_tests)

same_place : (x y : model.Rank) → comes_before x y ≡ false → comes_before y x ≡ false → x.place ≡ y.place
unfolding comes_before
same_place x y h k = grind (arith, nat_tests)

one_rank : (x y : model.Rank) → comes_before x y ≡ false → comes_before y x ≡ false → x ≡ y
one_rank x y h k =
    ap (λ n. made n x.holder.part x.holder.block x.place) (same_level x y h k)
    ∙ ap (λ n. made y.level n x.holder.block x.place) (same_part x y h k)
    ∙ ap (λ n. made y.level y.holder.part n x.place) (same_block x y h k)
    ∙ ap (λ n. made y.level y.holder.part y.holder.block n) (same_place x y h k)
  where
    made : ℕ → ℕ → ℕ → ℕ → model.Rank
    made l p b n = record { level = l; holder = addr p b; place = n }

member_flat : (f : Held → List Offer) (hs : List Held) (o : Offer) → Member o (flat_map f hs) → (h : Held) × Member h hs × Member o (f h)
member_flat f [] o m = absurd m
member_flat f (x ∷ xs) o m = go (λ k. member_flat f xs o k) (member_append (f x) (flat_map f xs) o m)
  where
    go : (Member o (flat_map f xs) → (h : Held) × Member h xs × Member o (f h)) → Member o (f x) ⊎ Member o (flat_map f xs) → (h : Held) × Member h (x ∷ xs) × Member o (f h)
    go ih (inl k) = (x, inl refl, k)
    go ih (inr k) = let r = ih k in (r.0, inr r.1, r.2)

abbrev offer : Addr → model.Rank → Offer
offer a r = record { target = a; rank = r }

module _ (s : Setting) (t : Tree) (hs : List Held) (h : AreHeld s t hs) where
  pub level_is : (x : Held) → Member x hs → x.level ≡ level s t x.at
  level_is x m = (h.listed.each (spot x.at x.level) (member_map (λ (y : Held). spot y.at y.level) hs x m)).1

  pub held_for : (a : Addr) → found s t a ≡ true → (x : Held) × Member x hs × (x.at ≡ a)
  held_for a f = go (any_gives (same_addr a) (addresses (held_spots hs)) (sym (h.listed.all a) ∙ f))
    where
      go : (b : Addr) × Member b (addresses (held_spots hs)) × (same_addr a b ≡ true) → (x : Held) × Member x hs × (x.at ≡ a)
      go (b, m, e) =
          let y = member_of_map (λ (z : Spot). z.at) (held_spots hs) b m in
          let x = member_of_map (λ (z : Held). spot z.at z.level) hs y.0 y.1 in
          (x.0, x.1, sym (same_address a b e ∙ y.2 ∙ ap (λ (z : Spot). z.at) x.2))

  -- the rank that a held entry's link has
  rank_is : (x : Held) (l : Link) (f : links.Link) → Member x hs → l.place ≡ f.place → (offer_of x l).rank ≡ rank_of s t x.at f
  unfolding rank_of
  rank_is x l f m e = ap (λ n. made n l.place) (level_is x m) ∙ ap (made (level s t x.at)) e
    where
      made : ℕ → ℕ → model.Rank
      made n p = record { level = n; holder = x.at; place = p }

  -- what held entries offer are offers of the definitions
  gives : (o : Offer) → Member o (offers_over hs) → (d : Addr) × (f : links.Link) × IsOffer s t o.target d f × (o.rank ≡ rank_of s t d f)
  unfolding offers_over offers_by offers_in named
  gives o m = at (member_flat offers_by hs o m)
    where
      at : (x : Held) × Member x hs × Member o (offers_by x) → (d : Addr) × (f : links.Link) × IsOffer s t o.target d f × (o.rank ≡ rank_of s t d f)
      at (x, mx, mo) = split x.sound refl mo
        where
          split : (b : Bool) → x.sound ≡ b → Member o (cond b (map (offer_of x) (filter is_first x.links.items)) []) → (d : Addr) × (f : links.Link) × IsOffer s t o.target d f × (o.rank ≡ rank_of s t d f)
          split false e k = absurd k
          split true e k =
              let l = member_of_map (offer_of x) (filter is_first x.links.items) o k in
              let linked : AreLinks (kept_links s t x.at) x.links.items = (h.each x mx).links e in
              let there = subst (λ (os : List Outline). Member (outline_seen l.0) os) linked.named (member_map outline_seen (filter is_first x.links.items) l.0 l.1) in
              let f = member_of_map outline_of (first_of_names [] (kept_links s t x.at)) (outline_seen l.0) there in (
                x.at,
                f.0,
                record {
                  holder = sym (h.each x mx).sound_is ∙ e;
                  among = contains_of (first_of_names [] (kept_links s t x.at)) f.0 f.1;
                  leads = ap (λ (y : Outline). y.target) (sym f.2) ∙ ap (λ (y : Offer). y.target) (sym l.2);
                },
                ap (λ (y : Offer). y.rank) l.2 ∙ rank_is x l.0 f.0 mx (ap (λ (y : Outline). y.place) f.2),
              )

  has_at : (x : Held) → Member x hs → (a : Addr) (f : links.Link) → IsOffer s t a x.at f → Member (offer a (rank_of s t x.at f)) (offers_over hs)
  unfolding offers_over offers_by offers_in named
  has_at x mx a f o =
      let e : x.sound ≡ true = (h.each x mx).sound_is ∙ o.holder in
      let linked : AreLinks (kept_links s t x.at) x.links.items = (h.each x mx).links e in
      let there = member_map outline_of (first_of_names [] (kept_links s t x.at)) f (member_of (first_of_names [] (kept_links s t x.at)) f o.among) in
      let l = member_of_map outline_seen (filter is_first x.links.items) (outline_of f) (subst (λ (os : List Outline). Member (outline_of f) os) (sym linked.named) there) in
      let target : l.0.target ≡ a = ap (λ (y : Outline). y.target) (sym l.2) ∙ o.leads in
      let rank : (offer_of x l.0).rank ≡ rank_of s t x.at f = rank_is x l.0 f mx (ap (λ (y : Outline). y.place) (sym l.2)) in
      let is : offer_of x l.0 ≡ offer a (rank_of s t x.at f) = ap (λ (b : Addr). offer b (offer_of x l.0).rank) target ∙ ap (offer a) rank in
      let by : Member (offer_of x l.0) (map (offer_of x) (filter is_first x.links.items)) = member_map (offer_of x) (filter is_first x.links.items) l.0 l.1 in
      in_flat_map offers_by hs x (offer a (rank_of s t x.at f)) mx
      (subst (λ (b : Bool). Member (offer a (rank_of s t x.at f)) (cond b (map (offer_of x) (filter is_first x.links.items)) [])) (sym e)
      (subst (λ (y : Offer). Member y (map (offer_of x) (filter is_first x.links.items))) is by))

  has : (a d : Addr) (f : links.Link) → IsOffer s t a d f → Member (offer a (rank_of s t d f)) (offers_over hs)
  has a d f o =
      let x = held_for d (sound_found s t d o.holder) in
      subst (λ (b : Addr). Member (offer a (rank_of s t b f)) (offers_over hs)) x.2
      (has_at x.0 x.1 a f (subst (λ (b : Addr). IsOffer s t a b f) (sym x.2) o))

  pub chosen_is : IsWithin s t → (first : Addr → Option Rank) → AreFirst (offers_over hs) first → AreChosen s t first
  chosen_is w first k = record { is = λ a. go a (first a) refl (chosen s t a) refl }
    where
      go : (a : Addr) (b : Option Rank) → first a ≡ b → (c : Option model.Rank) → chosen s t a ≡ c → option_map rank_seen b ≡ c
      go a None e None i = refl
      go a None e (Some x) i =
          let o = chosen_offer s t a x i in
          absurd (k.all a e (offer a (rank_of s t o.0 o.1)) (has a o.0 o.1 o.2) refl)
      go a (Some r) e None i =
          let o = gives (offer a (rank_seen r)) (k.there a r e) in
          absurd (chosen_none s t w a i o.0 o.1 o.2)
      go a (Some r) e (Some x) i =
          let o = gives (offer a (rank_seen r)) (k.there a r e) in
          let p = chosen_offer s t a x i in
          let not_after : comes_before (rank_seen r) x ≡ false = ap (λ (y : model.Rank). comes_before y x) o.3 ∙ chosen_first s t w a x i o.0 o.1 o.2 in
          let not_before : comes_before x (rank_seen r) ≡ false = ap (λ (y : model.Rank). comes_before y (rank_seen r)) p.3 ∙ k.low a r e (offer a (rank_of s t p.0 p.1)) (has a p.0 p.1 p.2) refl in
          ap Some (one_rank (rank_seen r) x not_after not_before)
