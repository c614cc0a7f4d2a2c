-- Worked examples of the definitions, each proved by computation.
use Rattle.std.proofs.Common.{◌≡◌, ℕ, ◌+◌, [], ◌∷◌, List, Some, refl}
use Rattle.kte_turn.specs.Known.{Known, events_of, news, longer, shorter, first, another, left, joined_with, own_calls}
use Rattle.kte_turn.specs.Steps.{last_of}
use Rattle.kte_turn.specs.Sums.{total, times, once_below}

-- events as pairs of a seat and a mark
abbrev seat_of : ℕ × ℕ → ℕ
seat_of event = event.0

abbrev tale : List (ℕ × ℕ)
tale = (0, 5) ∷ (1, 6) ∷ (0, 7) ∷ []

events_of_one_seat : events_of seat_of 0 tale ≡ (0, 5) ∷ (0, 7) ∷ []
events_of_one_seat = refl

events_of_no_seat : events_of seat_of 2 tale ≡ []
events_of_no_seat = refl

news_after_two : news ((0, 5) ∷ (1, 6) ∷ []) tale ≡ (0, 7) ∷ []
news_after_two = refl

last_event : last_of tale ≡ Some (0, 7)
last_event = refl

-- of a turn of five seats that started from 9
abbrev host : Known (ℕ × ℕ) ℕ
host = first 5 9

-- the passes that are split off have the seats 1, 2, 3 and 4
first_guest : (another host).seat ≡ 1
first_guest = refl

last_guest : (another (record host { share = 2 })).seat ≡ 4
last_guest = refl

guest_shares : (another host).share ≡ 1
guest_shares = refl

-- a turn in which others had made two events, and this pass one
own_after_a_turn : own_calls seat_of 0 (left ((1, 6) ∷ (0, 7) ∷ []) (record host { seen = (1, 6) ∷ [] })) ≡ (0, 7) ∷ []
own_after_a_turn = refl

turns_after_a_turn : (left [] host).turns ≡ 1
turns_after_a_turn = refl

-- a joined pass keeps its seat, and has joined that of the other one and all that this one had joined
abbrev guest : Known (ℕ × ℕ) ℕ
guest = record (another host) { joined = 3 ∷ []; share = 2; seen = tale; own = (1, 6) ∷ [] }

joined_numbers : (joined_with (record host { share = 2; joined = 2 ∷ [] }) guest).joined ≡ 2 ∷ 1 ∷ 3 ∷ []
joined_numbers = refl

joined_share : (joined_with (record host { share = 2 }) guest).share ≡ 4
joined_share = refl

joined_seen : (joined_with host guest).seen ≡ tale
joined_seen = refl

-- of two lists that are as long, the first is the longer
equal_lengths : longer {E = ℕ} (1 ∷ []) (2 ∷ []) ≡ 1 ∷ []
equal_lengths = refl

equal_lengths_shorter : shorter {E = ℕ} (1 ∷ []) (2 ∷ []) ≡ 2 ∷ []
equal_lengths_shorter = refl

sum_of_three : total (λ n. n + 1) (1 ∷ 2 ∷ 3 ∷ []) ≡ 9
sum_of_three = refl

twice_in_a_list : times 4 (4 ∷ 5 ∷ 4 ∷ []) ≡ 2
twice_in_a_list = refl

not_below_itself : once_below 4 4 ≡ 0
not_below_itself = refl
