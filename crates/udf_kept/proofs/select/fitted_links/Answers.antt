use Rattle.std.proofs.Common.{◌≡◌, ◌++◌, ◌∷◌, ◌+◌, ◌-◌, ◌<◌, ◌≤◌, [], List, length, map, drop, get_or, sym, ap, ◌∙◌, subst}
use Rattle.std.proofs.lemmas.List.{append-nil, append_assoc, map-append}
use Rattle.udf_kept.specs.declared.fitted.Fitted.{Fitted}
use Rattle.udf_found.specs.declared.link.Link.{Link}
use Rattle.udf_kept.specs.Fitted.{Step, step_seen}
use Rattle.udf_kept.specs.Selects.{is_selected}
use Rattle.udf_kept.proofs.Fitting.{fitted_is, front, front_ends, front_skips, front_stops, front_takes, step_to}
use Rattle.udf_kept.proofs.select.fitted_links.Goals as goal

pub loop-link-preserved-in_default : goal.loop-link-preserved-in_default
loop-link-preserved-in_default c = λ s t k.
    let ls : List Link = c.args.holder.now.links.items in
    let i = c.loop-link.link-index in
    let l : Link = c.link-item.result in
    let low : i < length ls = subst (λ (xs : List Link). i < length xs) c.deref-link-items.ensures.value c.loop-link-test.true in
    let is : l ≡ get_or ls i l = subst (λ (xs : List Link). l ≡ get_or xs i l) c.deref-link-items.ensures.value c.link-item.is in
    ap (λ (xs : List Step). map (step_seen c.args.held.now) c.loop-link.fitted.items ++ xs)
    (sym (front_skips (is_selected s t c.args.holder.now.at) ls i l low is c.loop-link.room (sym (c.in_default.ensures.selects s t k))))
    ∙ c.loop-link.invariant s t k

pub returns-then-room-link : goal.returns-then-room-link
returns-then-room-link c = λ s t k m e.
    let ls : List Link = c.args.holder.now.links.items in
    let i = c.loop-link.link-index in
    let l : Link = c.link-item.result in
    let low : i < length ls = subst (λ (xs : List Link). i < length xs) c.deref-link-items.ensures.value c.loop-link-test.true in
    let is : l ≡ get_or ls i l = subst (λ (xs : List Link). l ≡ get_or xs i l) c.deref-link-items.ensures.value c.link-item.is in
    sym (append-nil (map (step_seen c.args.held.now) c.loop-link.fitted.items))
    ∙ ap (λ (xs : List Step). map (step_seen c.args.held.now) c.loop-link.fitted.items ++ xs)
    (sym (front_stops (is_selected s t c.args.holder.now.at) ls i l low is c.loop-link.room (sym (c.in-Some.ensures.selects s t k)) c.if-room-link.true))
    ∙ c.loop-link.invariant s t k ∙ fitted_is s t c.args.holder.now (k.held.each c.args.holder.now m) e

pub loop-link-preserved : goal.loop-link-preserved
loop-link-preserved c = λ s t k.
    let ls : List Link = c.args.holder.now.links.items in
    let i = c.loop-link.link-index in
    let l : Link = c.link-item.result in
    let low : i < length ls = subst (λ (xs : List Link). i < length xs) c.deref-link-items.ensures.value c.loop-link-test.true in
    let is : l ≡ get_or ls i l = subst (λ (xs : List Link). l ≡ get_or xs i l) c.deref-link-items.ensures.value c.link-item.is in
    let x : Fitted = record { place = l.place; to = c.in-Some.to } in
    let seen = step_seen c.args.held.now in
    let rest : List Step = front (is_selected s t c.args.holder.now.at) (c.loop-link.room - l.room) (drop (i + 1) ls) in
    let to : seen x ≡ step_to l = ap (λ o. let y : Step = record { place = l.place; to = o } in y) c.in-Some.ensures.position in
    ap (λ (xs : List Fitted). map seen xs ++ rest) c.in_ok-push.ensures.items
    ∙ ap (λ (xs : List Step). xs ++ rest) (map-append seen c.loop-link.fitted.items (x ∷ []))
    ∙ append_assoc (map seen c.loop-link.fitted.items) (seen x ∷ []) rest
    ∙ ap (λ (y : Step). map seen c.loop-link.fitted.items ++ y ∷ rest) to
    ∙ ap (λ (xs : List Step). map seen c.loop-link.fitted.items ++ xs)
    (sym (front_takes (is_selected s t c.args.holder.now.at) ls i l low is c.loop-link.room (sym (c.in-Some.ensures.selects s t k)) c.if-room-link.false))
    ∙ c.loop-link.invariant s t k

pub returns : goal.returns
returns c = λ s t k m e.
    let ls : List Link = c.args.holder.now.links.items in
    let over : length ls ≤ c.loop-link.link-index = subst (λ (xs : List Link). length xs ≤ c.loop-link.link-index) c.deref-link-items.ensures.value c.loop-link-test.false in
    sym (append-nil (map (step_seen c.args.held.now) c.loop-link.fitted.items))
    ∙ ap (λ (xs : List Step). map (step_seen c.args.held.now) c.loop-link.fitted.items ++ xs)
    (sym (front_ends (is_selected s t c.args.holder.now.at) ls c.loop-link.link-index c.loop-link.room over))
    ∙ c.loop-link.invariant s t k ∙ fitted_is s t c.args.holder.now (k.held.each c.args.holder.now m) e
