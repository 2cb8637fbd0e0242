use Rattle.atlas_tree.proofs.PlanLemmas.DonePlans.{whole-done}
use Rattle.atlas_tree.proofs.requests.place.Goals as goal

pub returns-in-Whole : goal.returns-in-Whole
returns-in-Whole g c = whole-done c.in-Whole.is c.place.ensures
