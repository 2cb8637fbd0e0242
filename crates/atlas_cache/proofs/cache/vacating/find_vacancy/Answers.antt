use Rattle.atlas_cache.proofs.cache.vacating.find_vacancy.Goals as goal

pub returns-clause-crowded : goal.returns-clause-crowded
returns-clause-crowded g c = λ is. c.first_vacancy.ensures.crowded (let same = is in cc)
