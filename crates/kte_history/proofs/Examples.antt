-- Worked examples of the definitions, each proved by computation.
use Rattle.std.proofs.Common.{◌≡◌, [], ◌∷◌, true, false, None, Some, refl}
use Rattle.kte_place.specs.declared.span.Empty.TheVariants.{Allow, Void}
use Rattle.kte_place.specs.Entry.{insertion, wrap}
use Rattle.kte_place.specs.Examples.{span, expand}
use Rattle.kte_history.specs.declared.lock.Owner.TheVariants.{Editor, Job}
use Rattle.kte_history.specs.declared.history.TheConstants.{MAX_REVISIONS}
use Rattle.kte_history.specs.Locks.{kept, is_locked, has_lock, unlocked}
use Rattle.kte_history.specs.Landing.{carry_all, is_clear_of}
use Rattle.kte_history.specs.Examples.{by_editor, by_job, three, there_and_back, joined_and_cut}

greatest_limit : MAX_REVISIONS ≡ 2147483648
greatest_limit = refl

-- what is kept of three entries: nothing, what comes after the only lock, or after the older of two
nothing_locked : kept [] three ≡ []
nothing_locked = refl

after_the_lock : kept (by_editor 1 ∷ []) three ≡ insertion 0 0 1 2 ∷ insertion 0 0 1 3 ∷ []
after_the_lock = refl

after_the_older_lock : kept (by_job 7 3 ∷ by_editor 0 ∷ []) three ≡ three
after_the_older_lock = refl

current_locked : kept (by_editor 3 ∷ []) three ≡ []
current_locked = refl

-- a revision that was locked twice is locked until it was unlocked twice
locked_twice : is_locked (unlocked (by_editor 2 ∷ by_job 7 2 ∷ []) Editor 2) 2 ≡ true
locked_twice = refl

unlocked_twice : is_locked (unlocked (unlocked (by_editor 2 ∷ by_editor 2 ∷ []) Editor 2) Editor 2) 2 ≡ false
unlocked_twice = refl

-- a lock is its owner's alone
anothers_lock : has_lock (by_job 7 2 ∷ []) (Job 8) 2 ≡ false
anothers_lock = refl

-- a range that became empty on the way stays invalid
lost_on_the_way : carry_all there_and_back (Some (span 0 1 0 3)) (expand true true) Void ≡ None
lost_on_the_way = refl

-- .. and one that may be empty takes in what is inserted there
emptied_on_the_way : carry_all there_and_back (Some (span 0 1 0 3)) (expand true true) Allow ≡ Some (span 0 1 0 3)
emptied_on_the_way = refl

-- a span that starts beyond the end of line 0 is emptied by the join, and stays where it starts
crossed_on_the_way : carry_all joined_and_cut (Some (span 0 4 1 1)) (expand false false) Allow ≡ Some (span 1 2 1 2)
crossed_on_the_way = refl

-- an insertion within a line between a span's first and last, and one in its last line
between_the_ends : is_clear_of (insertion 1 0 1 5) (span 0 3 2 4) ≡ true
between_the_ends = refl

in_the_last_line : is_clear_of (insertion 2 9 1 9) (span 0 3 2 4) ≡ false
in_the_last_line = refl

-- a cut between them moves the last line
cut_between : is_clear_of (wrap 1 0) (span 0 3 2 4) ≡ false
cut_between = refl
