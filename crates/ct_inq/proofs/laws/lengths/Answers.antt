use Rattle.ct_inq.proofs.Sizes.{length-page, length-inquiry, length-capacity_10, length-capacity_16, length-luns, length-luns_most}
use Rattle.ct_cdb.specs.declared.choices.LunSelection.TheVariants as selection
use Rattle.ct_inq.proofs.laws.lengths.Goals as goal

pub returns : goal.returns
returns c = record {
  page = length-page;
  inquiry = length-inquiry;
  capacity_10 = length-capacity_10;
  capacity_16 = length-capacity_16;
  luns = length-luns;
  luns_most = length-luns_most;
  well_known = λ allocation visible. length-luns selection.WellKnown allocation visible;
}
