-- Changes, one after another.
use Rattle.std.proofs.Common.{◌≡◌, Bool, List, [], ◌∷◌, ◌++◌, None, Some, Result, inl, inr, refl, sym, ap, subst, ◌∙◌, append_assoc}
use Rattle.std.proofs.lemmas.{Bool.{cases_Bool}}
use Rattle.guillotiere.specs.declared.Size.{Size}
use Rattle.atlas_cache.specs.declared.changes.CacheChange.{CacheChange}
use Rattle.atlas_cache.specs.declared.changes.CacheChange.TheVariants.{PageAdded, PageGrown, Evicted, Moved, PageRemoved}
use Rattle.atlas_entries.specs.declared.entries.Entry.{Entry}
use Rattle.atlas_entries.specs.declared.error.CacheError.{CacheError}
use Rattle.atlas_cache.specs.declared.inserted.Inserted.{Inserted}
use Rattle.atlas_cache.specs.Caches.{CacheState, entry_for, HasNoPageFor}
use Rattle.atlas_entries.proofs.AppendedLists.{append-none}
use Rattle.atlas_cache.specs.Changes.{Does, DoesOne, Ends, InsertsUncounted, InsertsThere, Leads, MayVacate}

module _ {K : Type 0} where
  -- What an insert did so far.
  pub record Reached (asked : Size) (before now : List (CacheChange K)) (s t : CacheState K) : Type 0 where
    pub made : List (CacheChange K)
    pub listed : now ≡ before ++ made
    pub leads : Leads asked made s t

  pub nothing_yet : (asked : Size) (before : List (CacheChange K)) (s : CacheState K) → before ≡ before ++ []
      → Reached asked before before s s
  nothing_yet asked before s same = record { made = []; listed = same; leads = refl }

  leads-last : (asked : Size) (cs : List (CacheChange K)) (c : CacheChange K) (s t u : CacheState K)
      → Leads asked cs s t
      → HasNoPageFor asked t → Does c t u → Leads asked (cs ++ c ∷ []) s u
  leads-last asked [] c s t u same none does =
      (u, subst (HasNoPageFor asked) (sym same) none, subst (λ v. Does c v u) (sym same) does, refl)
  leads-last asked (d ∷ cs) c s t u leads none does =
      (leads.0, leads.1, leads.2, leads-last asked cs c leads.0 t u leads.3 none does)

  pub one_more_change : (asked : Size) (before now new : List (CacheChange K)) (s t u : CacheState K)
      → Reached asked before now s t
      → HasNoPageFor asked t → DoesOne now new t u → Reached asked before new s u
  one_more_change asked before now new s t u was none one = record {
    made = was.made ++ one.change ∷ [];
    listed = one.listed ∙ ap (λ cs. cs ++ one.change ∷ []) was.listed ∙ append_assoc before was.made (one.change ∷ []);
    leads = leads-last asked was.made one.change s t u was.leads none one.does;
  }

  pub does_options : (c : CacheChange K) (s t : CacheState K) → Does c s t → t.options ≡ s.options
  does_options (PageAdded page size) s t does = does.keeps.options
  does_options (PageGrown page size) s t does = does.keeps.options
  does_options (Evicted key place) s t does = does.goes.options
  does_options (Moved key from to) s t does = absurd does
  does_options (PageRemoved page) s t does = absurd does

  pub one_options : (before after : List (CacheChange K)) (s t : CacheState K) → DoesOne before after s t
      → t.options ≡ s.options
  one_options before after s t one = does_options one.change s t one.does

  module _ (eq : K → K → Bool) (k : K) where
    pub none_left : (xs : List (Entry K)) (e : Entry K) (ys : List (Entry K)) → entry_for eq k (xs ++ e ∷ ys) ≡ None
        → entry_for eq k (xs ++ ys) ≡ None
    none_left [] e ys none = elim (cases_Bool (eq k e.key)) [
      | inl hit ↦ let found = rw hit at none in absurd (let some : Some e ≡ None = found in cc)
      | inr miss ↦ rw miss at none
    ]
    none_left (x ∷ xs) e ys none = elim (cases_Bool (eq k x.key)) [
      | inl hit ↦ let found = rw hit at none in absurd (let some : Some x ≡ None = found in cc)
      | inr miss ↦ let rest = rw miss at none in rw miss (none_left xs e ys rest)
    ]

    does_absent : (c : CacheChange K) (s t : CacheState K) → Does c s t → entry_for eq k s.entries ≡ None
        → entry_for eq k t.entries ≡ None
    does_absent (PageAdded page size) s t does none = rw does.keeps.entries none
    does_absent (PageGrown page size) s t does none = rw does.keeps.entries none
    does_absent (Evicted key place) s t does none = rw does.goes.is (none_left does.goes.newer does.goes.entry does.goes.older
        (rw does.goes.was at none))
    does_absent (Moved key from to) s t does none = absurd does
    does_absent (PageRemoved page) s t does none = absurd does

    pub one_absent : (before after : List (CacheChange K)) (s t : CacheState K) → DoesOne before after s t
        → entry_for eq k s.entries ≡ None → entry_for eq k t.entries ≡ None
    one_absent before after s t one none = does_absent one.change s t one.does none

  pub inserted : (asked : Size) (key : K) (size : Size) (result : Result Inserted CacheError)
      (before after : List (CacheChange K)) (s t u : CacheState K) → Reached asked before after s t → Ends asked key size result t u
      → InsertsUncounted asked key size result before after s u
  inserted asked key size result before after s t u was ends = record {
    made = was.made;
    more = [];
    listed = was.listed ∙ ap (λ cs. before ++ cs) (sym (append-none was.made));
    so_far = t;
    leads = was.leads;
    done = t;
    vacates = inl (refl, refl);
    ends = ends;
  }

  -- Where what lies in a box went last.
  pub inserted_there : (asked : Size) (key : K) (size : Size) (result : Result Inserted CacheError)
      (before now after more : List (CacheChange K)) (s t u v : CacheState K) → Reached asked before now s t
      → after ≡ now ++ more → MayVacate asked more t u → Ends asked key size result u v
      → InsertsUncounted asked key size result before after s v
  inserted_there asked key size result before now after more s t u v was listed vacates ends = record {
    made = was.made;
    more = more;
    listed = listed ∙ ap (λ cs. cs ++ more) was.listed ∙ append_assoc before was.made more;
    so_far = t;
    leads = was.leads;
    done = u;
    vacates = vacates;
    ends = ends;
  }

  pub then_there : (asked : Size) (key : K) (size : Size) (result : Result Inserted CacheError)
      (before now after : List (CacheChange K)) (s t v : CacheState K) → Reached asked before now s t
      → InsertsThere asked key size result now after t v
      → InsertsUncounted asked key size result before after s v
  then_there asked key size result before now after s t v was there =
      inserted_there asked key size result before now after there.more s t there.done v was there.listed there.vacates there.ends
