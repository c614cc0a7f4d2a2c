-- A pass has its job in one way only, so that a struct may keep this fact.
use Rattle.std.proofs.Common.{ℕ, Option, Some, None}
use denote.Struct.Props as logic
use Rattle.kte_text.specs.Texts.{IsText}
use Rattle.kte_core.specs.State.{State}
use Rattle.kte_core.proofs.PropLemmas.{free-prop, works_on-prop}
use Rattle.kte_desk.specs.Seen.{Sees, seen_state}
use Rattle.kte_desk.specs.Works.{Works, WorksAsSeen, text_then}
use Rattle.kte_desk.specs.declared.work.Work.{Work}

works-prop : (state : State) (seat : ℕ) (work : Option Work) → IsProp (Works state seat work)
works-prop state seat None = free-prop state seat
works-prop state seat (Some work) =
    let works = works_on-prop state seat work.job work.revision in
    let text : IsProp (IsText (text_then state work.revision)) = hlevel (logic.props) in
    hlevel (works, text)

-- a pass has its job in one way only
pub WorksAsSeen-prop : (sees : Sees) (work : Option Work) → IsProp (WorksAsSeen sees work)
WorksAsSeen-prop sees work = λ p q. λ i origin is. works-prop (seen_state origin sees) sees.seat work (p origin is) (q origin is) i
