-- Which links of held entries may be chosen, and the first of them to each address.
use Rattle.std.specs.Prelude.{◌≡◌, false, cond, List, [], map, Option, Some, None, option_map}
use Rattle.std.specs.List.{filter, flat_map}
use Rattle.udf_field.specs.declared.address.Addr.{Addr}
use Rattle.udf_tree_model.specs.Among.{Member}
use Rattle.udf_tree_model.specs.Node.{Setting, Tree}
use Rattle.udf_tree_model.specs.Chosen as model
use Rattle.udf_tree_model.specs.Chosen.{chosen, comes_before}
use Rattle.udf_kept.specs.declared.choices.Rank.{Rank}
use Rattle.udf_held.specs.declared.held.Held.{Held}
use Rattle.udf_found.specs.declared.link.Link.{Link}
use Rattle.udf_held.specs.Held.{AreHeld}
use Rattle.udf_found.specs.Linked.{is_first}

-- a rank in the terms of the definitions
abbrev pub rank_seen : Rank → model.Rank
rank_seen r = record { level = r.level; holder = r.holder; place = r.place }

-- the first of a rank and of one before, where there is one
abbrev pub first_by : Option Rank → Rank → Rank
first_by None x = x
first_by (Some y) x = cond (comes_before (rank_seen x) (rank_seen y)) x y

-- a link that may be the chosen one to its target
pub record Offer : Type 0 where
  pub target : Addr
  pub rank : model.Rank

-- what a link of a holder offers
abbrev pub offer_of : Held → Link → Offer
offer_of h l = record { target = l.target; rank = record { level = h.level; holder = h.at; place = l.place } }

-- what these links of a holder offer: those with names that no earlier one has
unfoldable pub offers_in : Held → List Link → List Offer
offers_in h ls = map (offer_of h) (filter is_first ls)

-- what an entry offers, if it is sound
unfoldable pub offers_by : Held → List Offer
offers_by h = cond h.sound (offers_in h h.links.items) []

-- what all of them offer
unfoldable pub offers_over : List Held → List Offer
offers_over hs = flat_map offers_by hs

-- of each address the first offer to it
pub record AreFirst (os : List Offer) (first : Addr → Option Rank) : Type 0 where
  pub there : (a : Addr) (r : Rank) → first a ≡ Some r → Member (record { target = a; rank = rank_seen r }) os
  pub low : (a : Addr) (r : Rank) → first a ≡ Some r → (o : Offer) → Member o os → o.target ≡ a → comes_before o.rank (rank_seen r) ≡ false
  pub all : (a : Addr) → first a ≡ None → (o : Offer) → Member o os → o.target ≡ a → ⊥

-- of each address the chosen link to it
pub record AreChosen (s : Setting) (t : Tree) (first : Addr → Option Rank) : Type 0 where
  pub is : (a : Addr) → option_map rank_seen (first a) ≡ chosen s t a

-- held entries, and the chosen links to them
pub record Knows (s : Setting) (t : Tree) (hs : List Held) (first : Addr → Option Rank) : Type 0 where
  pub held : AreHeld s t hs
  pub choices : AreChosen s t first
