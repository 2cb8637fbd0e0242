-- An insertion, as it counts the evictions that fragmentation forced.
use Rattle.std.proofs.Common.{ℕ, true, false, ◌≡◌, ◌+◌, ◌-◌, min, sym, ap, subst, ◌∙◌, inl, inr}
use Rattle.std.specs.Prelude.{List, [], ◌∷◌, Result, Ok, Err}
use Rattle.std.specs.List.{list_any}
use Rattle.guillotiere.specs.Boxes.{Box}
use Rattle.guillotiere.specs.declared.Size.{Size}
use Rattle.atlas_cache.specs.declared.changes.CacheChange.{CacheChange}
use Rattle.atlas_cache.specs.declared.changes.CacheChange.TheVariants.{PageAdded, PageGrown, Evicted, Moved, PageRemoved}
use Rattle.atlas_cache.specs.declared.counts.Counts.{Counts}
use Rattle.atlas_entries.specs.declared.error.CacheError.{CacheError}
use Rattle.atlas_cache.specs.declared.inserted.Inserted.{Inserted}
use Rattle.atlas_cache.specs.declared.inserted.Inserted.TheVariants.{Placed, Held, FrameFull, NeverFits}
use Rattle.atlas_cache.specs.Caches.{CacheState}
use Rattle.atlas_cache.specs.Rooms.{has_area}
use Rattle.atlas_cache.specs.Changes.{forced_after, ClearsBox, Does, Inserts, InsertsUncounted, Leads, MayVacate}

abbrev forced_in : Counts → ℕ
forced_in n = n.forced

module _ {K : Type 0} where
  abbrev forced_of : CacheState K → ℕ
  forced_of s = s.counts.forced

  does_forced : (c : CacheChange K) (s t : CacheState K) → Does c s t → t.counts.forced ≡ s.counts.forced
  does_forced (PageAdded page size) s t does = ap forced_in does.keeps.counts
  does_forced (PageGrown page size) s t does = ap forced_in does.keeps.counts
  does_forced (Evicted key place) s t does = ap forced_in does.goes.counts
  does_forced (Moved key from to) s t does = absurd does
  does_forced (PageRemoved page) s t does = absurd does

  led_forced : (asked : Size) (cs : List (CacheChange K)) (s t : CacheState K) → Leads asked cs s t
      → t.counts.forced ≡ s.counts.forced
  led_forced asked [] s t same = ap forced_of (sym same)
  led_forced asked (c ∷ cs) s t leads = led_forced asked cs leads.0 t leads.3 ∙ does_forced c s leads.0 leads.2

  cleared_forced : (page : ℕ) (box : Box) (cs : List (CacheChange K)) (s t : CacheState K) → ClearsBox page box cs s t
      → t.counts.forced ≡ s.counts.forced
  cleared_forced page box [] s t same = ap forced_of (sym same)
  cleared_forced page box (PageAdded p size ∷ cs) s t clears = absurd clears.1
  cleared_forced page box (PageGrown p size ∷ cs) s t clears = absurd clears.1
  cleared_forced page box (Evicted key place ∷ cs) s t clears =
      cleared_forced page box cs clears.0 t clears.2 ∙ ap forced_in clears.1.goes.counts
  cleared_forced page box (Moved key from to ∷ cs) s t clears = absurd clears.1
  cleared_forced page box (PageRemoved p ∷ cs) s t clears = absurd clears.1

  all_forced : (asked : Size) (made more : List (CacheChange K)) (s mid t : CacheState K) → Leads asked made s mid
      → MayVacate asked more mid t → t.counts.forced ≡ s.counts.forced
  all_forced asked made more s mid t leads (inl none) = ap forced_of (sym none.1) ∙ led_forced asked made s mid leads
  all_forced asked made more s mid t leads (inr v) =
      cleared_forced v.page v.box more mid t v.clears ∙ led_forced asked made s mid leads

  -- What an insertion does leaves that count as it is.
  pub inserts_forced : (asked : Size) (key : K) (size : Size) (result : Result Inserted CacheError)
      (before after : List (CacheChange K)) (s t : CacheState K) → InsertsUncounted asked key size result before after s t
      → t.counts.forced ≡ s.counts.forced
  inserts_forced asked key size (Ok (Placed place)) before after s t ins =
      ap forced_in ins.ends.counts ∙ all_forced asked ins.made ins.more s ins.so_far ins.done ins.leads ins.vacates
  inserts_forced asked key size (Ok (Held place)) before after s t ins = absurd ins.ends
  inserts_forced asked key size (Ok FrameFull) before after s t ins =
      ap forced_of (sym ins.ends.0) ∙ all_forced asked ins.made ins.more s ins.so_far ins.done ins.leads ins.vacates
  inserts_forced asked key size (Ok NeverFits) before after s t ins = absurd ins.ends
  inserts_forced asked key size (Err error) before after s t ins =
      ap forced_in ins.ends.keeps.counts ∙ all_forced asked ins.made ins.more s ins.so_far ins.done ins.leads ins.vacates

  -- A state with another count of forced evictions.
  abbrev pub with_forced : (n : ℕ) → CacheState K → CacheState K
  with_forced n t = record t { counts = record t.counts { forced = n } }

  -- So is the insertion with the count that follows it.
  pub counted : (asked : Size) (key : K) (size : Size) (result : Result Inserted CacheError)
      (before after : List (CacheChange K)) (s t : CacheState K) (n : ℕ) → InsertsUncounted asked key size result before after s t
      → n ≡ forced_after asked s t → Inserts asked key size result before after s (with_forced n t)
  counted asked key size result before after s t n ins is = record {
    does = subst (λ (m : ℕ). InsertsUncounted asked key size result before after s (with_forced m t))
        (inserts_forced asked key size result before after s t ins) ins;
    forced = is;
  }

  -- With all that it evicted, where some page had the area.
  pub counted_if : (asked : Size) (key : K) (size : Size) (result : Result Inserted CacheError)
      (before after : List (CacheChange K)) (s t : CacheState K) (n : ℕ) → InsertsUncounted asked key size result before after s t
      → list_any (has_area asked) s.pages ≡ true
      → n ≡ min (t.counts.forced + (t.counts.evictions - s.counts.evictions)) 18446744073709551615
      → Inserts asked key size result before after s (with_forced n t)
  counted_if asked key size result before after s t n ins has is =
      let all = ap (λ (m : ℕ). min (m + (t.counts.evictions - s.counts.evictions)) 18446744073709551615)
      (inserts_forced asked key size result before after s t ins) in
      counted asked key size result before after s t n ins (rw has (is ∙ all))

  -- Else with nothing.
  pub counted_else : (asked : Size) (key : K) (size : Size) (result : Result Inserted CacheError)
      (before after : List (CacheChange K)) (s t : CacheState K) → InsertsUncounted asked key size result before after s t
      → list_any (has_area asked) s.pages ≡ false → Inserts asked key size result before after s t
  counted_else asked key size result before after s t ins has =
      counted asked key size result before after s t t.counts.forced ins
      (rw has (inserts_forced asked key size result before after s t ins))
