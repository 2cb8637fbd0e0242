-- What an insert of a new key answers, and what it leaves as it is.
use Rattle.std.proofs.Common.{ℕ, ◌≡◌, ◌+◌, ◌<◌, ◌≤◌, arith, List, [], ◌∷◌, Result, Ok, Err, sym, ap, subst, ◌∙◌, inl, inr}
use Rattle.std.specs.List.{AllByRecursion}
use Rattle.guillotiere.specs.declared.Size.{Size}
use Rattle.atlas_cache.specs.declared.changes.CacheChange.{CacheChange}
use Rattle.atlas_cache.specs.declared.changes.CacheChange.TheVariants.{PageAdded, PageGrown, Evicted, Moved, PageRemoved}
use Rattle.atlas_entries.specs.declared.entries.Entry.{Entry}
use Rattle.atlas_entries.specs.declared.error.CacheError.{CacheError}
use Rattle.atlas_cache.specs.declared.inserted.Inserted.{Inserted}
use Rattle.atlas_cache.specs.declared.inserted.Inserted.TheVariants.{Placed, Held, FrameFull, NeverFits}
use Rattle.atlas_cache.specs.declared.places.Place.{Place}
use Rattle.atlas_cache.specs.Caches.{CacheState, FramesFall}
use Rattle.atlas_cache.specs.Changes.{ClearsBox, Does, InsertsUncounted, InsertsBlank, Leads, MayVacate}
use Rattle.guillotiere.specs.Boxes.{Box}
use Rattle.atlas_cache.proofs.LoopLemmas.{does_options}
use Rattle.atlas_cache.proofs.VacatedLemmas.{cleared-reserved}

module _ {K : Type 0} where
  module _ (asked : Size) (key : K) (size : Size) (result : Result Inserted CacheError) (before after : List (CacheChange K))
      (s t : CacheState K) (ins : InsertsUncounted asked key size result before after s t) where
    as_if : (r : Result Inserted CacheError) → result ≡ r → InsertsUncounted asked key size r before after s t
    as_if r is = subst (λ (x : Result Inserted CacheError). InsertsUncounted asked key size x before after s t) is ins

    pub not_held : (place : Place) → result ≡ Ok (Held place) → ⊥
    not_held place is = (as_if (Ok (Held place)) is).ends

    pub not_never : result ≡ Ok NeverFits → ⊥
    not_never is = (as_if (Ok NeverFits) is).ends

  does_frame : (c : CacheChange K) (s t : CacheState K) → Does c s t → t.frame ≡ s.frame
  does_frame (PageAdded page size) s t does = does.keeps.frame
  does_frame (PageGrown page size) s t does = does.keeps.frame
  does_frame (Evicted key place) s t does = does.goes.frame
  does_frame (Moved key from to) s t does = absurd does
  does_frame (PageRemoved page) s t does = absurd does

  led_stays : (asked : Size) (cs : List (CacheChange K)) (s t : CacheState K) → Leads asked cs s t
      → (t.options ≡ s.options) × (t.frame ≡ s.frame)
  led_stays asked [] s t same =
      (ap (λ (u : CacheState K). u.options) (sym same), ap (λ (u : CacheState K). u.frame) (sym same))
  led_stays asked (c ∷ cs) s t leads =
      let rest = led_stays asked cs leads.0 t leads.3 in
      (rest.0 ∙ does_options c s leads.0 leads.2, rest.1 ∙ does_frame c s leads.0 leads.2)

  pub cleared_stays : (page : ℕ) (box : Box) (cs : List (CacheChange K)) (s t : CacheState K) → ClearsBox page box cs s t
      → (t.options ≡ s.options) × (t.frame ≡ s.frame)
  cleared_stays page box [] s t same =
      (ap (λ (u : CacheState K). u.options) (sym same), ap (λ (u : CacheState K). u.frame) (sym same))
  cleared_stays page box (PageAdded p size ∷ cs) s t clears = absurd clears.1
  cleared_stays page box (PageGrown p size ∷ cs) s t clears = absurd clears.1
  cleared_stays page box (Evicted key place ∷ cs) s t clears =
      let rest = cleared_stays page box cs clears.0 t clears.2 in
      (rest.0 ∙ clears.1.goes.options, rest.1 ∙ clears.1.goes.frame)
  cleared_stays page box (Moved key from to ∷ cs) s t clears = absurd clears.1
  cleared_stays page box (PageRemoved p ∷ cs) s t clears = absurd clears.1

  may_stay : (asked : Size) (cs : List (CacheChange K)) (s t : CacheState K) → MayVacate asked cs s t
      → (t.options ≡ s.options) × (t.frame ≡ s.frame)
  may_stay asked cs s t (inl none) =
      (ap (λ (u : CacheState K). u.options) (sym none.1), ap (λ (u : CacheState K). u.frame) (sym none.1))
  may_stay asked cs s t (inr v) = cleared_stays v.page v.box cs s t v.clears

  -- What stays by all changes.
  all_stay : (asked : Size) (made more : List (CacheChange K)) (s mid t : CacheState K) → Leads asked made s mid
      → MayVacate asked more mid t → (t.options ≡ s.options) × (t.frame ≡ s.frame)
  all_stay asked made more s mid t leads vacates =
      let led = led_stays asked made s mid leads in
      let left = may_stay asked more mid t vacates in
      (left.0 ∙ led.0, left.1 ∙ led.1)

  pub inserts_stay : (asked : Size) (key : K) (size : Size) (result : Result Inserted CacheError)
      (before after : List (CacheChange K)) (s t : CacheState K) → InsertsUncounted asked key size result before after s t
      → (t.options ≡ s.options) × (t.frame ≡ s.frame)
  inserts_stay asked key size (Ok (Placed place)) before after s t ins =
      let led = all_stay asked ins.made ins.more s ins.so_far ins.done ins.leads ins.vacates in
      (ins.ends.options ∙ led.0, ins.ends.frame ∙ led.1)
  inserts_stay asked key size (Ok (Held place)) before after s t ins = absurd ins.ends
  inserts_stay asked key size (Ok FrameFull) before after s t ins =
      let led = all_stay asked ins.made ins.more s ins.so_far ins.done ins.leads ins.vacates in (
        ap (λ (u : CacheState K). u.options) (sym ins.ends.0) ∙ led.0,
        ap (λ (u : CacheState K). u.frame) (sym ins.ends.0) ∙ led.1,
      )
  inserts_stay asked key size (Ok NeverFits) before after s t ins = absurd ins.ends
  inserts_stay asked key size (Err error) before after s t ins =
      let led = all_stay asked ins.made ins.more s ins.so_far ins.done ins.leads ins.vacates in
      (ins.ends.keeps.options ∙ led.0, ins.ends.keeps.frame ∙ led.1)

  does_reserved : (c : CacheChange K) (s t : CacheState K) → Does c s t → t.reserved ≡ s.reserved
  does_reserved (PageAdded page size) s t does = does.keeps.reserved
  does_reserved (PageGrown page size) s t does = does.keeps.reserved
  does_reserved (Evicted key place) s t does = does.goes.reserved
  does_reserved (Moved key from to) s t does = absurd does
  does_reserved (PageRemoved page) s t does = absurd does

  led_reserved : (asked : Size) (cs : List (CacheChange K)) (s t : CacheState K) → Leads asked cs s t
      → t.reserved ≡ s.reserved
  led_reserved asked [] s t same = ap (λ (u : CacheState K). u.reserved) (sym same)
  led_reserved asked (c ∷ cs) s t leads =
      led_reserved asked cs leads.0 t leads.3 ∙ does_reserved c s leads.0 leads.2

  all_reserved : (asked : Size) (made more : List (CacheChange K)) (s mid t : CacheState K) → Leads asked made s mid
      → MayVacate asked more mid t → t.reserved ≡ s.reserved
  all_reserved asked made more s mid t leads (inl none) =
      ap (λ (u : CacheState K). u.reserved) (sym none.1) ∙ led_reserved asked made s mid leads
  all_reserved asked made more s mid t leads (inr v) =
      cleared-reserved v.page v.box more mid t v.clears ∙ led_reserved asked made s mid leads

  -- An insert takes at most one of the entries in reserve.
  pub inserts_take : (asked : Size) (key : K) (size : Size) (result : Result Inserted CacheError)
      (before after : List (CacheChange K)) (s t : CacheState K) → InsertsUncounted asked key size result before after s t
      → s.reserved ≤ t.reserved + 1
  inserts_take asked key size (Ok (Placed place)) before after s t ins =
      omega (arith, all_reserved asked ins.made ins.more s ins.so_far ins.done ins.leads ins.vacates, ins.ends.reserved)
  inserts_take asked key size (Ok (Held place)) before after s t ins = absurd ins.ends
  inserts_take asked key size (Ok FrameFull) before after s t ins =
      omega (
        arith,
        all_reserved asked ins.made ins.more s ins.so_far ins.done ins.leads ins.vacates,
        ap (λ (u : CacheState K). u.reserved) ins.ends.0,
      )
  inserts_take asked key size (Ok NeverFits) before after s t ins = absurd ins.ends
  inserts_take asked key size (Err error) before after s t ins =
      omega (arith, all_reserved asked ins.made ins.more s ins.so_far ins.done ins.leads ins.vacates, ins.ends.keeps.reserved)

  pub blank_takes : (key : K) (size : Size) (result : Result Inserted CacheError) (s t : CacheState K)
      → InsertsBlank key size result s t → s.reserved ≤ t.reserved + 1
  blank_takes key size (Ok (Placed place)) s t ins = omega (arith, ins.reserved)
  blank_takes key size (Ok (Held place)) s t ins = absurd ins
  blank_takes key size (Ok FrameFull) s t ins = absurd ins
  blank_takes key size (Ok NeverFits) s t ins = absurd ins
  blank_takes key size (Err error) s t ins = omega (arith, ap (λ (u : CacheState K). u.reserved) ins.0)

  -- Whatever was used in no later frame than this one wasn't used in a later one.
  pub unused_all : (frame later : ℕ) (es : List (Entry K)) → frame < later → FramesFall frame es
      → AllByRecursion (λ e. e.frame < later) es
  unused_all frame later [] less falls = tt
  unused_all frame later (e ∷ es) less falls =
      let first : e.frame < later = omega (arith, less, falls.0) in (first, unused_all e.frame later es first falls.1)
