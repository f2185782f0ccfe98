-- The fate of each warrior in each round of a match.
use Rattle.std.specs.Prelude.{◌==◌, ◌+◌, ◌-◌, ◌%◌, ℕ, zero, suc, Bool, false, nat_le, if◌then◌else◌, List, [], ◌∷◌, ◌++◌, length, slice_index_or, Option, Result, Ok}
use Rattle.mars_cell.specs.Parameters.{Parameters}
use Rattle.mars_cell.specs.Warriors.{WarriorValue}
use Rattle.mars_core.specs.State.{State}
use Rattle.mars_core.specs.declared.deaths.Death.{Death}
use Rattle.redcode_text.specs.Results.{◌>>=◌}
use Rattle.mars_match.specs.Battles.{count_fault, end_of, in_load_order, round_fault, round_start, started, unless}
use Rattle.mars_match.specs.Counts.{counts_of}
use Rattle.mars_match.specs.Rounds.{counted, placed_for}
use Rattle.mars_match.specs.declared.counts.Counts.{Counts}
use Rattle.mars_match.specs.declared.fates.Fate.{Fate}
use Rattle.mars_match.specs.declared.fault.MatchFault.{MatchFault}

-- The number of turns of all warriors when the warrior at `place` in the order of turns died, or `all` if no death in
-- the list is that of this warrior.
abbrev pub turns_until : List Death → ℕ → ℕ → ℕ
turns_until [] place all = all
turns_until (death ∷ deaths) place all = if death.warrior == place then death.turns else turns_until deaths place all

-- The place of warrior `i` in the order of turns, if warrior `first` of `w` has the first turn.
abbrev pub place_of : ℕ → ℕ → ℕ → ℕ
place_of w first i = if nat_le first i then i - first else w - (first - i)

-- Zeros, for a warrior of which nothing is counted.
abbrev pub no_counts : Counts
no_counts = record { turns = 0; spawned = 0; executed = 0; written = 0; touched = 0 }

-- What the warrior at `place` in the order of turns did in the battle that starts in the state `s`; zeros unless `counting`.
abbrev pub deeds_of : Bool → State → ℕ → Counts
deeds_of counting s place = if counting then counts_of s place else no_counts

-- The fate of warrior `i`, whose first cell is at `start`, in a battle that is over and in which warrior `first` had the first
-- turn. `deeds` has what each warrior did, by its place in the order of turns.
abbrev pub fate_of : State → (ℕ → Counts) → ℕ → ℕ → ℕ → Fate
fate_of over deeds first i start =
    let place = place_of (length over.queues) first i in
    record {
      survived = slice_index_or (in_load_order first over) i false;
      turns = turns_until over.deaths place over.turns;
      start = start;
      counts = deeds place;
    }

-- The fates of the warriors from warrior `i` on, in load order, whose first cells are at the addresses in the last list.
abbrev pub fates_from : State → (ℕ → Counts) → ℕ → ℕ → List ℕ → List Fate
fates_from over deeds first i [] = []
fates_from over deeds first i (start ∷ starts) = fate_of over deeds first i start ∷ fates_from over deeds first (i + 1) starts

-- The battle of round `k` when it is over, or the error of starting it.
abbrev pub ended : Parameters → List WarriorValue → List ℕ → ℕ → Result State MatchFault
ended p warriors starts k = unless (round_fault p warriors starts k) (end_of (round_start p warriors starts k))

-- The fates of round `k`, in load order, or the error of starting it.
abbrev pub round_fates : Bool → Parameters → List WarriorValue → List ℕ → ℕ → Result (List Fate) MatchFault
round_fates counting p warriors starts k =
    started p warriors starts k >>= λ s. Ok (fates_from (end_of s) (deeds_of counting s) (k % length warriors) 0 starts)

-- The fates of `n` rounds, one round after another, from round `k` and `seed` on; or the error of the first round that
-- has one.
abbrev pub fates : Bool → Parameters → List WarriorValue → Option ℕ → ℕ → ℕ → ℕ → Result (List Fate) MatchFault
fates counting p warriors fixed zero k seed = Ok []
fates counting p warriors fixed (suc n) k seed =
    placed_for p (length warriors) fixed seed >>= λ placed.
    round_fates counting p warriors placed.0 k >>= λ now.
    fates counting p warriors fixed n (k + 1) placed.1 >>= λ later. Ok (now ++ later)

-- The fates of a match of `n` rounds that begins with `seed`, or its first error: no warrior or too many, then the error
-- of the first round that has one.
unfoldable pub fates_of : Bool → Parameters → List WarriorValue → Option ℕ → ℕ → ℕ → Result (List Fate) MatchFault
fates_of counting p warriors fixed n seed =
    counted (count_fault (length warriors)) (fates counting p warriors fixed n 0 seed)
