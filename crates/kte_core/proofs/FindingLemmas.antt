-- The ranges of a job's findings, in a state and in its document.
use Rattle.std.proofs.Common.{◌≡◌, ℕ, zero, suc, ◌+◌, ◌-◌, ◌<◌, ◌≤◌, false, cond, List, [], ◌∷◌, length, map, slice_get, Option, None, Some, IsSome, refl, ap, sym, subst, ◌∙◌, inl, inr, arith}
use Rattle.std.specs.Option.{option_map}
use Rattle.std.specs.Ordering.{nat_cmp, eq_by_cmp}
use Rattle.std.specs.FinMap.{FinMap, get, insert, get-insert}
use Rattle.std.specs.Cmp.{nat_cmp_total, unsigned_tied}
use Rattle.std.proofs.lemmas.Bool.{cases_lt, lt-ltb, le-ltb, ne_eqb}
use Rattle.std.proofs.lemmas.Option.{slice_get-map}
use Rattle.kte_place.specs.Ends.{Ends}
use Rattle.kte_place.specs.declared.span.Empty.TheVariants.{Void}
use Rattle.kte_ranges.specs.declared.info.RangeKind.TheVariants as kind
use Rattle.kte_history.specs.declared.lock.Lock.{Lock}
use Rattle.kte_history.specs.declared.lock.Owner.TheVariants as owner
use Rattle.kte_history.specs.Locks.{unlocked}
use Rattle.kte_history.specs.Revisions.{Revisions}
use Rattle.kte_doc.specs.Documents.{Document, KeepsTrail, made_of, range_at, history_of}
use Rattle.kte_doc.specs.Standings.{Standing}
use Rattle.kte_jobs.specs.declared.job.JobState.TheVariants.{Done}
use Rattle.kte_jobs.specs.Job.{Job}
use Rattle.kte_jobs.specs.Jobs.{with_state}
use Rattle.kte_core.specs.State.{Range, State}
use Rattle.kte_core.specs.Jobs.{found_at, with_ranges, taken_at, deliver}
use Rattle.kte_core.specs.Shown.{IsOf, Shows, Gives, MakesFindings, range_of}
use Rattle.kte_core.specs.declared.present.Present.{Present}
use Rattle.kte_core.specs.declared.reply.Reply.TheVariants as reply
use Rattle.kte_core.proofs.FoldKeepLemmas.{folds-locked, folds-made}
use Rattle.kte_core.proofs.RangeLemmas.{get_here}

-- another number is told apart
apart : (q id : ℕ) → (q ≡ id → ⊥) → eq_by_cmp nat_cmp q id ≡ false
apart q id differ = unsigned_tied q id ∙ ne_eqb q id differ

-- numbers below the first one have the ranges that they had
below : (more : List Range) (ranges : FinMap nat_cmp Range) (next id : ℕ) → id < next → get (with_ranges ranges next more) id ≡ get ranges id
below [] ranges next id less = refl
below (range ∷ more) ranges next id less =
    below more (insert ranges next range) (next + 1) id (omega arith)
    ∙ get-insert nat_cmp_total ranges next range id
    ∙ ap (λ b. cond b (Some range) (get ranges id)) (apart id next (λ same. omega arith))

-- .. and those from it on have these, where there were none
from : (more : List Range) (ranges : FinMap nat_cmp Range) (next k id : ℕ) → id ≡ next + k
    → ((q : ℕ) → next ≤ q → get ranges q ≡ None) → get (with_ranges ranges next more) id ≡ slice_get more k
from [] ranges next k id is none = none id (omega arith)
from (range ∷ more) ranges next zero id is none =
    let here : id ≡ next = omega arith in
    ap (get (with_ranges (insert ranges next range) (next + 1) more)) here
    ∙ below more (insert ranges next range) (next + 1) next (omega arith) ∙ get_here ranges next range
from (range ∷ more) ranges next (suc k) id is none =
    from more (insert ranges next range) (next + 1) k id (omega arith)
    (λ q past. get-insert nat_cmp_total ranges next range q
    ∙ ap (λ b. cond b (Some range) (get ranges q)) (apart q next (λ same. omega arith)) ∙ none q (omega arith))

-- the range of a finding, without where it stands
without_span : (history : Revisions) (lines job revision : ℕ) (finding : Option Ends)
    → option_map range_of (option_map (range_at history lines revision (record { left = false; right = false }) Void (kind.Job job)) finding)
    ≡ option_map (found_at job revision) finding
without_span history lines job revision None = refl
without_span history lines job revision (Some span) = refl

-- a number that the next range may get has none
none_by : (state : State) (document : Document) (q : ℕ) (found : Option Standing) → get document.ranges q ≡ found → IsOf state document
    → document.next ≤ q → get state.ranges q ≡ None
none_by state document q None is is_of past = sym (is_of.ranges q) ∙ ap (option_map range_of) is
none_by state document q (Some standing) is is_of past =
    let used : IsSome (get document.ranges q) = rw is refl in
    let within = is_of.came.numbers q used in
    absurd (omega (arith, within.1))

ranges_of_findings : (state : State) (document made : Document) (job revision : ℕ) (findings : List Ends) → IsOf state document
    → MakesFindings job revision findings document made → (id : ℕ)
    → option_map range_of (get made.ranges id)
    ≡ get (with_ranges state.ranges state.next_id (map (found_at job revision) findings)) id
ranges_of_findings state document made job revision findings is_of makes id =
    let next = document.next in
    let ranges = state.ranges in
    let more = map (found_at job revision) findings in
    let told = ap (option_map range_of) (makes.ranges id) in
    let now : with_ranges ranges next more ≡ with_ranges ranges state.next_id more = ap (λ (n : ℕ). with_ranges ranges n more) is_of.next_id in
    elim (cases_lt id next) [
      | inl less ↦
          let t = lt-ltb id next less in
          let before : option_map range_of (made_of document revision (record { left = false; right = false }) Void (kind.Job job) findings id)
          ≡ option_map range_of (get document.ranges id) = rw t refl in
          told ∙ before ∙ is_of.ranges id ∙ sym (below more ranges next id less) ∙ ap (λ (m : FinMap nat_cmp Range). get m id) now
      | inr past ↦
          let f = le-ltb id next past in
          let k = id - next in
          let after : option_map range_of (made_of document revision (record { left = false; right = false }) Void (kind.Job job) findings id)
          ≡ option_map (found_at job revision) (slice_get findings k) =
          rw f (without_span (history_of document) (length document.text) job revision (slice_get findings k)) in
          told ∙ after ∙ sym (slice_get-map (found_at job revision) findings k)
          ∙ sym (from more ranges next k id (omega arith) (λ q le. none_by state document q (get document.ranges q) refl is_of le))
          ∙ ap (λ (m : FinMap nat_cmp Range). get m id) now
    ]

pub Gives-delivered : (state : State) (present : Present) (seat job revision : ℕ) (findings : List Ends) (made later : Document) (jobs : List Job)
    (first count : ℕ) → Shows state present → taken_at present.jobs seat job ≡ Some revision
    → MakesFindings job revision findings present.doc made
    → later ≡ record made { locks = unlocked made.locks (owner.Job job) revision; kept = later.kept } → KeepsTrail made later
    → jobs ≡ with_state present.jobs job Done → first ≡ present.doc.next → count ≡ length findings
    → Gives (deliver state job findings (taken_at state.jobs seat job)) (reply.Delivered job first count)
    (record present { doc = later; jobs = jobs })
Gives-delivered state present seat job revision findings made later jobs first count shows taken makes released keeps finished at many =
    let taken_now : Some revision ≡ taken_at state.jobs seat job =
    sym taken ∙ ap (λ (js : List Job). taken_at js seat job) shows.jobs in
    let document = shows.document in
    subst (λ (o : Option ℕ). Gives (deliver state job findings o) (reply.Delivered job first count)
    (record present { doc = later; jobs = jobs })) taken_now (record {
      reply = ap (λ (n : ℕ). reply.Delivered job n count) (at ∙ document.next_id) ∙ ap (reply.Delivered job state.next_id) many;
      made = refl;
      uncut = refl;
      shows = record {
        document = record {
          came = keeps _ _ (makes.trail _ _ document.came);
          limit = ap (λ (d : Document). d.limit) released ∙ ap (λ (d : Document). d.limit) makes.rest ∙ document.limit;
          ranges = λ id. ap (λ (d : Document). option_map range_of (get d.ranges id)) released
              ∙ ranges_of_findings state present.doc made job revision findings document makes id;
          next_id = ap (λ (d : Document). d.next) released ∙ ap (λ (d : Document). d.next) makes.rest
              ∙ ap (λ (n : ℕ). n + length findings) document.next_id;
          locks = ap (λ (d : Document). d.locks) released
              ∙ ap (λ (d : Document). unlocked d.locks (owner.Job job) revision) makes.rest
              ∙ ap (λ (locks : List Lock). unlocked locks (owner.Job job) revision) document.locks;
        };
        edits = shows.edits;
        jobs = finished ∙ ap (λ (js : List Job). with_state js job Done) shows.jobs;
        folds = folds-locked made later (unlocked made.locks (owner.Job job) revision) later.kept released present.folds
            (folds-made _ _ present.doc made job revision findings document.came makes present.folds shows.folds);
        closed = shows.closed;
      };
    })
