-- What a caller knows who follows the changes of an insert.
use Rattle.std.specs.Prelude.{◌≡◌, Bool, List, ◌++◌, Option, Some, None, Result, Ok, Err}
use Rattle.atlas_cache.specs.declared.changes.CacheChange.{CacheChange}
use Rattle.atlas_entries.specs.declared.error.CacheError.{CacheError}
use Rattle.atlas_cache.specs.declared.inserted.Inserted.{Inserted}
use Rattle.atlas_cache.specs.declared.inserted.Inserted.TheVariants.{Placed, Held, FrameFull, NeverFits}
use Rattle.atlas_cache.specs.declared.places.Place.{Place}
use Rattle.atlas_cache.specs.Caches.{CacheState}
use Rattle.atlas_cache.specs.Changes.{Picture, all_changed, picture_of, placed, ShowsSame}

-- The place that an answer has.
abbrev pub given_by : Inserted → Option Place
given_by (Placed place) = Some place
given_by (Held place) = Some place
given_by FrameFull = None
given_by NeverFits = None

module _ {K : Type 0} where
  -- The picture with the place that a call gave for a key.
  abbrev pub with_given : (K → K → Bool) → K → Result Inserted CacheError → Picture K → Picture K
  with_given eq key (Ok (Placed place)) p = placed eq key (Some place) p
  with_given eq key (Ok (Held place)) p = placed eq key (Some place) p
  with_given eq key (Ok FrameFull) p = p
  with_given eq key (Ok NeverFits) p = p
  with_given eq key (Err error) p = p

  -- A caller who follows the changes that were added, and notes the place that was given, knows what the cache holds.
  pub record Tells (eq : K → K → Bool) (key : K) (result : Result Inserted CacheError)
      (before after : List (CacheChange K)) (s t : CacheState K) : Type 0 where
    pub made : List (CacheChange K)
    pub listed : after ≡ before ++ made
    pub shows : ShowsSame (with_given eq key result (all_changed eq made (picture_of eq s))) (picture_of eq t)
