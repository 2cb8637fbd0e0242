use Rattle.std.proofs.Common.{◌<◌, ◌∙◌, ap, subst, sym, get_or}
use Rattle.atlas_search.specs.declared.bands.TheConstants.{USUAL_BANDS}
use Rattle.atlas_search.proofs.SearchLemmas.BandSteps.{usual_band-is, usual_band-most}
use Rattle.atlas_search.proofs.bands.usual_band.Goals as goal

pub returns-clause-band : goal.returns-clause-band
returns-clause-band c = λ o usual. ap (λ i. get_or USUAL_BANDS i 0) c.min.ensures ∙ usual_band-is o c.args.side usual

pub returns-clause-inside : goal.returns-clause-inside
returns-clause-inside c = subst (λ x. x < 52) (sym (ap (λ i. get_or USUAL_BANDS i 0) c.min.ensures)) (usual_band-most c.args.side)
