-- What the links of a kept entry have to be.
use Rattle.std.specs.Prelude.{Bool, not, ◌&&◌, ◌||◌, ◌==◌}
use Rattle.std.specs.List.{list_any, list_all}
use Rattle.udf_field.specs.declared.address.Addr.{Addr}
use Rattle.udf_tree_model.specs.Link.{Link, target_of, is_pointer}
use Rattle.udf_tree_model.specs.Node.{Tree, Setting, node_at, is_entry}
use Rattle.udf_tree_model.specs.Won.{sound, kept_links}
use Rattle.udf_tree_model.specs.Chosen.{named, chosen, is_rank}

-- the rule on targets: each live FID names a sound entry
unfoldable pub targets_hold : Setting → Tree → Addr → Bool
targets_hold s t d =
    list_all (λ f. is_pointer f.says || (sound s t (target_of f.says) && is_entry s t (target_of f.says))) (kept_links s t d)

abbrev pub is_named : Setting → Tree → Addr → Link → Bool
is_named s t d f = list_any (λ g. g.place == f.place) (named s t d)

abbrev pub is_directory_entry : Setting → Tree → Addr → Bool
is_directory_entry s t a = (node_at t a).directory && is_entry s t a

-- a start has no chosen link
abbrev pub is_chosen : Setting → Tree → Addr → Link → Bool
is_chosen s t d f = not (s.start (target_of f.says)) && is_rank d f (chosen s t (target_of f.says))

-- beside the rule on targets: each live FID is the first of its name, and where it names a directory the chosen link to it
unfoldable pub names_hold : Setting → Tree → Addr → Bool
names_hold s t d =
    list_all (λ f. is_pointer f.says || (is_named s t d f && (not (is_directory_entry s t (target_of f.says)) || is_chosen s t d f))) (kept_links s t d)
