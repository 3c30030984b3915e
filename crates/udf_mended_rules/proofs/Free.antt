-- After all mends each kept entry claims what it claimed, so the same blocks are free.
use Rattle.std.proofs.Common.{◌≡◌, ℕ, ◌&&◌, ◌||◌, not, Bool, true, false, cond, List, refl, sym, ap, ◌∙◌, inl, inr, ◌⊎◌}
use Rattle.std.specs.List.{list_any}
use Rattle.std.proofs.Math.Path.{fun_ext}
use Rattle.udf_field.specs.declared.address.Addr.{Addr}
use Rattle.udf_file_model.specs.Address.{same_addr}
use Rattle.udf_file_model.specs.Cut.{cut_pieces}
use Rattle.udf_file_model.specs.Entry.{Entry}
use Rattle.udf_file_model.specs.Listing.{Volume, addresses, list_for, with_disk}
use Rattle.udf_tree_model.specs.Claimed.{claims, claims_by, is_claimed, is_free, mended_length, mended_list}
use Rattle.udf_tree_model.specs.Frame.{Frame, entry_at, places, setting_of, tree_of}
use Rattle.udf_tree_model.specs.Kept.{kept}
use Rattle.udf_file_mends.specs.FileSet.{frame_after}
use Rattle.udf_file_mends.specs.Repairable.{IsMendOn}
use Rattle.udf_file_mends.specs.Wanted.{entry_after}
use Rattle.udf_file_mends.proofs.Nodes.{entry_reads, list_reads}
use Rattle.udf_mended_rules.specs.AllMends.{HasAllMends}
use Rattle.udf_mended_rules.proofs.Dropped.{and_false}
use Rattle.udf_mended_rules.proofs.Holder.{is_gone}
use Rattle.udf_mended_rules.proofs.Rules.{lists_stay}
use Rattle.udf_mended_rules.proofs.Settled as settled

module _ (f : Frame) (v : Volume) (disk : ℕ → List ℕ) (h : HasAllMends f v disk) where
  abbrev w : Volume
  w = with_disk v disk

  abbrev g : Frame
  g = frame_after f v

  lists_same : (a : Addr) (e : Entry) → IsMendOn f v disk a e → mended_list g w a (entry_after f v a e) ≡ mended_list f v a e
  lists_same a e m = kept_list ∙ list_reads f v disk a e m
    where
      kept_list : mended_list g w a (entry_after f v a e) ≡ list_for w a (entry_after f v a e)
      kept_list =
          unfold mended_list in
          ap (λ b. cond b (list_for w a (entry_after f v a e)) (cut_pieces (mended_length g w a (entry_after f v a e)) (list_for w a (entry_after f v a e))))
          (lists_stay f v disk h a e m)

  -- the holder of the pointer to the system stream directory claims nothing
  claims_same : (a : Addr) → kept (setting_of f v) (tree_of f v) a ≡ true → (x : Addr) → (not (is_gone f v a) && claims g w a x) ≡ claims f v a x
  unfolding claims
  claims_same a k x = by (settled.either f v disk h a k)
    where
      by : ((e : Entry) × IsMendOn f v disk a e) ⊎ settled.IsPointerHolder f v disk a
          → (not (is_gone f v a) && claims_by g w a (entry_at w a) x) ≡ claims_by f v a (entry_at v a) x
      by (inl r) =
          ap (λ b. not b && claims_by g w a (entry_at w a) x) (settled.not_gone f v disk h a r.1.kept)
          ∙ ap (λ o. claims_by g w a o x) (entry_reads f v disk a r.0 r.1)
          ∙ ap (λ l. same_addr a x || list_any (same_addr x) (addresses v.size l)) (lists_same a r.0 r.1)
          ∙ sym (ap (λ o. claims_by f v a o x) r.1.entry)
      by (inr r) =
          ap (λ o. not (is_gone f v a) && claims_by g w a o x) r.new ∙ and_false (not (is_gone f v a))
          ∙ sym (ap (λ o. claims_by f v a o x) r.old)

  abbrev is_claimant : Frame → Volume → Addr → Addr → Bool
  is_claimant f' v' x a = kept (setting_of f' v') (tree_of f' v') a && claims f' v' a x

  claimant_same : (x a : Addr) → is_claimant g w x a ≡ is_claimant f v x a
  claimant_same x a = ap (λ b. b && claims g w a x) (settled.kept_same f v disk h a) ∙ by (kept (setting_of f v) (tree_of f v) a) refl
    where
      by : (b : Bool) → kept (setting_of f v) (tree_of f v) a ≡ b → ((b && not (is_gone f v a)) && claims g w a x) ≡ (b && claims f v a x)
      by true k = claims_same a k x
      by false k = refl

  claimed_same : (x : Addr) → is_claimed g w x ≡ is_claimed f v x
  unfolding is_claimed places
  claimed_same x = ap (λ p. list_any p (places v)) (fun_ext {f = is_claimant g w x} {g = is_claimant f v x} (claimant_same x))

  pub free_same : (x : Addr) → is_free (frame_after f v) (with_disk v disk) x ≡ is_free f v x
  unfolding is_free frame_after
  free_same x = ap (λ b. not (f.fixed x) && not b) (claimed_same x)
