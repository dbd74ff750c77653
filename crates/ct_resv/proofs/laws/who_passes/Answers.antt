use Rattle.ct_resv.proofs.WhoPasses.{passes_free, passes_holder, passes_always}
use Rattle.ct_resv.proofs.laws.who_passes.Goals as goal

pub returns : goal.returns
returns c = record { free = passes_free; holder = passes_holder; always = passes_always }
