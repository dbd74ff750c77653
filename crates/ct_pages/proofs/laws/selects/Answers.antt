use Rattle.ct_pages.proofs.Selected.{no_page_selected, told_again}
use Rattle.ct_pages.proofs.laws.selects.Goals as goal

pub returns : goal.returns
returns c = record { nothing = no_page_selected; told = told_again }
