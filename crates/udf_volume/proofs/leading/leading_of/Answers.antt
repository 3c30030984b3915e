use Rattle.std.proofs.Common.{◌∙◌, ap, sym, []}
use Rattle.udf_volume_model.specs.Prevailing.{prevailing_index}
use Rattle.udf_volume_model.specs.Stated.{partition_number}
use Rattle.udf_volume.proofs.Leads.{leads_to, information_is}
use Rattle.udf_volume.proofs.Profiled.{logical_some}
use Rattle.udf_volume.proofs.leading.leading_of.Goals as goal

pub returns : goal.returns
returns c =
    let list = c.args.list.now in
    let logical = c.index-list-logical.result in
    record {
      primary = c.index_of_only-primary.ensures.index;
      primary_inside = c.index_of_only-primary.ensures.inside;
      logical = c.index_of_only-logical.ensures.index;
      logical_inside = c.index_of_only-logical.ensures.inside;
      partition =
          c.prevailing_index-partition.ensures.index
          ∙ ap (λ subject. prevailing_index 5 subject list) (c.partition_number.ensures
          ∙ ap partition_number (sym (logical_some list logical (leads_to 6 [] list _ logical c.index_of_only-logical.ensures.index c.index_of_only-logical.ensures.inside c.index-list-logical.is))));
      partition_inside = c.prevailing_index-partition.ensures.inside;
      information = c.prevailing_index-information.ensures.index ∙ ap (λ subject. prevailing_index 4 subject list) information_is;
      information_inside = c.prevailing_index-information.ensures.inside;
    }
