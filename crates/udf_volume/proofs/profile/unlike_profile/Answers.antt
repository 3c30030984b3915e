use Rattle.std.proofs.Common.{◌≡◌, [], Some, ◌∙◌}
use Rattle.udf_volume_model.specs.Prevailing.{prevailing}
use Rattle.udf_volume.proofs.Leads.{leads_to}
use Rattle.udf_volume.proofs.Profiled.{other_block_size, other_domain, other_revision, pointed, by_maps}
use Rattle.udf_volume.proofs.profile.unlike_profile.Goals as goal

pub returns-then-not-has_block_size : goal.returns-then-not-has_block_size
returns-then-not-has_block_size c =
    let list = c.args.list.now in
    let d = c.index-list-leading.result in
    let here : Some d ≡ prevailing 6 [] list = leads_to 6 [] list c.args.leading.now.logical d c.requires.logical c.requires.logical_inside c.index-list-leading.is in
    other_block_size list c.args.size d here c.if-not-has_block_size.ensures

pub returns-then-not-has_domain : goal.returns-then-not-has_domain
returns-then-not-has_domain c =
    let list = c.args.list.now in
    let d = c.index-list-leading.result in
    let here : Some d ≡ prevailing 6 [] list = leads_to 6 [] list c.args.leading.now.logical d c.requires.logical c.requires.logical_inside c.index-list-leading.is in
    other_domain list c.args.size d here c.if-not-has_block_size.ensures c.if-not-has_domain.ensures

pub returns-then-not-has_revision : goal.returns-then-not-has_revision
returns-then-not-has_revision c =
    let list = c.args.list.now in
    let d = c.index-list-leading.result in
    let here : Some d ≡ prevailing 6 [] list = leads_to 6 [] list c.args.leading.now.logical d c.requires.logical c.requires.logical_inside c.index-list-leading.is in
    other_revision list c.args.size d here c.if-not-has_block_size.ensures c.if-not-has_domain.ensures c.if-not-has_revision.ensures

pub returns-then-has_pointer : goal.returns-then-has_pointer
returns-then-has_pointer c =
    let list = c.args.list.now in
    let d = c.index-list-leading.result in
    let here : Some d ≡ prevailing 6 [] list = leads_to 6 [] list c.args.leading.now.logical d c.requires.logical c.requires.logical_inside c.index-list-leading.is in
    pointed list c.args.size d here c.if-not-has_block_size.ensures c.if-not-has_domain.ensures c.if-not-has_revision.ensures c.if-has_pointer.ensures

pub returns : goal.returns
returns c =
    let list = c.args.list.now in
    let d = c.index-list-leading.result in
    let here : Some d ≡ prevailing 6 [] list = leads_to 6 [] list c.args.leading.now.logical d c.requires.logical c.requires.logical_inside c.index-list-leading.is in
    c.unlike_maps.ensures ∙ by_maps list c.args.size d here c.if-not-has_block_size.ensures c.if-not-has_domain.ensures c.if-not-has_revision.ensures c.if-has_pointer.ensures
