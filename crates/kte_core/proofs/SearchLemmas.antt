-- What a search finds is what is picked from the list of all matches.
use Rattle.std.proofs.Common.{◌≡◌, ℕ, ◌<◌, List, [], length, Option, None, Some, IfSome, IsTrue, refl, ap, subst, ◌∙◌, arith, lit<}
use Rattle.std.proofs.lemmas.Bool.Decides.{nat_tests}
use Rattle.std.specs.Prelude.{IfNone}
use Rattle.std.specs.Option.{option_to_list}
use Rattle.kte_place.specs.declared.place.Place.{Place}
use Rattle.kte_place.specs.Ends.{Ends}
use Rattle.kte_place.specs.Place.{at, is_at_or_before}
use Rattle.kte_doc.specs.Documents.{Document}
use Rattle.kte_search.specs.declared.query.Query.{Query}
use Rattle.kte_search.specs.Found.{all_matches, first_match, last_match}
use Rattle.kte_search.specs.Matches.{AreAll, HasNone, HasNoneFrom, HasNoneTo, IsFirst, IsLast}
use Rattle.kte_search.proofs.MatchLemmas.{one_first, one_last, one_all}
use Rattle.kte_search.proofs.FoundLemmas.{picks_first, picks_no_first, picks_last, picks_no_last, picks_all}
use Rattle.kte_command.specs.declared.command.Command.TheVariants.{All, Find, FindBack}
use Rattle.kte_core.specs.State.{State}
use Rattle.kte_core.specs.React.{react_command, told_found}
use Rattle.kte_core.specs.Shown.{IsOf, Replies}
use Rattle.kte_core.specs.declared.reply.Reply.{Reply}

-- what is found is the one thing that is sought, and nothing is found where there is none of it
only_one : (Is : Ends → Type 0) (None_is : Type 0) (found picked : Option Ends) → ((s t : Ends) → Is s → Is t → s ≡ t) → ((s : Ends) → Is s → None_is → ⊥)
    → IfSome found Is → IfNone found None_is → ((s : Ends) → picked ≡ Some s → Is s) → (picked ≡ None → None_is) → found ≡ picked
only_one Is None_is None None one apart some none picks no_pick = refl
only_one Is None_is None (Some t) one apart some none picks no_pick = absurd (apart t (picks t refl) none)
only_one Is None_is (Some s) None one apart some none picks no_pick = absurd (apart s some (no_pick refl))
only_one Is None_is (Some s) (Some t) one apart some none picks no_pick = ap (λ (x : Ends). Some x) (one s t some (picks t refl))

pub is_first_match : (q : Query) (text : List (List ℕ)) (from : Place) (found : Option Ends) → 0 < length q.pattern
    → IfSome found (IsFirst q text from) → IfNone found (HasNoneFrom q text from) → found ≡ first_match q text from
is_first_match q text from found filled some none =
    only_one (IsFirst q text from) (HasNoneFrom q text from) found (first_match q text from) (one_first q text from)
    (λ s first none_from. none_from s first.is_match first.after) some none
    (λ s picked. picks_first q text from s filled picked) (picks_no_first q text from filled)

pub is_last_match : (q : Query) (text : List (List ℕ)) (before : Place) (found : Option Ends) → 0 < length q.pattern
    → IfSome found (IsLast q text before) → IfNone found (HasNoneTo q text before) → found ≡ last_match q text before
is_last_match q text before found filled some none =
    only_one (IsLast q text before) (HasNoneTo q text before) found (last_match q text before) (one_last q text before)
    (λ s last none_to. none_to s last.is_match last.inside) some none
    (λ s picked. picks_last q text before s filled picked) (picks_no_last q text before filled)

pub are_all_matches : (q : Query) (text : List (List ℕ)) (found : List Ends) → 0 < length q.pattern → AreAll q text found
    → found ≡ all_matches q text
are_all_matches q text found filled all = one_all q text found (all_matches q text) all (picks_all q text filled)

-- where there are no matches to list, there is none
from_start : (p : Place) → IsTrue (is_at_or_before (at 0 0) p)
from_start p = grind (arith, nat_tests)

pub has_no_match : (q : Query) (text : List (List ℕ)) → 0 < length q.pattern → all_matches q text ≡ [] → HasNone q text
has_no_match q text filled none =
    let all = subst (AreAll q text) none (picks_all q text filled) in
    λ t is_match. all.whole (lit< tt) t is_match (from_start t.start)

-- what is replied of it, in a state and its document
pub Replies-find : (state : State) (document : Document) (from : Place) (q : Query) (answer : Reply) → IsOf state document
    → answer ≡ told_found (option_to_list (first_match q document.text from)) → Replies (react_command state (Find from q)) answer document
Replies-find state document from q answer is_of told = record {
  reply = told ∙ ap (λ text. told_found (option_to_list (first_match q text from))) is_of.came.text;
  made = refl;
  leads = is_of;
}

pub Replies-find_back : (state : State) (document : Document) (before : Place) (q : Query) (answer : Reply) → IsOf state document
    → answer ≡ told_found (option_to_list (last_match q document.text before)) → Replies (react_command state (FindBack before q)) answer document
Replies-find_back state document before q answer is_of told = record {
  reply = told ∙ ap (λ text. told_found (option_to_list (last_match q text before))) is_of.came.text;
  made = refl;
  leads = is_of;
}

pub Replies-all : (state : State) (document : Document) (q : Query) (answer : Reply) → IsOf state document
    → answer ≡ told_found (all_matches q document.text) → Replies (react_command state (All q)) answer document
Replies-all state document q answer is_of told = record {
  reply = told ∙ ap (λ text. told_found (all_matches q text)) is_of.came.text;
  made = refl;
  leads = is_of;
}
