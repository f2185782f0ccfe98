-- Examples, as theorems: settings, errors, cells, programs, records and fates as numbers, blocks, warriors in an array,
-- the start of a later round, values out of range, populations, and lineups.
pub mod Wrong
pub mod Results
use Rattle.std.specs.Prelude.{◌≡◌, ℕ, zero, suc, pos, refl, true, false, All, List, [], ◌∷◌, ◌++◌, None, Some, Ok, Err, codes, replicate, slice_index_or}
use Rattle.std.proofs.Common.{ap, arith, subst}
use Rattle.std.proofs.lemmas.List.Elements.{All-cons, All-nil}
use Rattle.mars_cell.specs.Cells.{FitsCore}
use Rattle.mars_cell.specs.ParameterFaults.{checked_parameters}
use Rattle.mars_cell.specs.Parameters.{Parameters}
use Rattle.mars_cell.specs.Warriors.{WarriorValue}
use Rattle.mars_cell.specs.declared.instruction.Op.{Op}
use Rattle.mars_cell.specs.declared.instruction.Op.TheVariants.{Dat, Djn, Jmp, Mov, Sne, Spl}
use Rattle.mars_cell.specs.declared.instruction.Modifier.{Modifier}
use Rattle.mars_cell.specs.declared.instruction.Modifier.TheVariants.{B, Ba, F, I, X}
use Rattle.mars_cell.specs.declared.instruction.Mode.TheVariants.{Immediate, Direct, AIndirect, APredecrement, BPredecrement, BPostincrement}
use Rattle.mars_cell.specs.declared.fault.LoadFault.TheVariants.{Syntax}
use Rattle.mars_cell.specs.declared.parameters.ParamFault.TheVariants.{Distance}
use Rattle.redcode_asm.specs.Formula.{formula_of}
use Rattle.redcode_asm.specs.declared.fault.AsmProblem.TheVariants.{Text}
use Rattle.redcode_asm.specs.declared.fault.AsmProblem.TheVariants as assembly
use Rattle.redcode_text.specs.Expression.{value_of, tree_within}
use Rattle.redcode_text.specs.Results.{◌>>=◌}
use Rattle.redcode_text.specs.Tokens.{scanned}
use Rattle.redcode_text.specs.declared.fault.ExprFault.TheVariants.{DivideByZero, Range}
use Rattle.redcode_text.specs.declared.fault.TextProblem.TheVariants.{Expression}
use Rattle.mars_core.specs.Block.{block_of, field_words, head_of}
use Rattle.mars_core.specs.Start.{start_state, overlap}
use Rattle.mars_core.specs.State.{State, ends}
use Rattle.mars_core.specs.Touched.{touched}
use Rattle.mars_core.specs.Examples.{the_machine, battle_of, cell_of, imp, of_eight, eight, lone}
use Rattle.mars_core.specs.declared.battle.block.BlockFault.TheVariants as block
use Rattle.mars_core.specs.declared.battle.edit.Edit.TheVariants.{KillProcess}
use Rattle.mars_core.specs.declared.battle.edit.EditFault.TheVariants.{Address, QueueFull}
use Rattle.mars_core.specs.declared.battle.start.BattleFault.TheVariants.{FieldOutside}
use Rattle.mars_core.specs.declared.battle.start.BattleFault.TheVariants as battle
use Rattle.mars_match.specs.Battles.{survivors_of_round, end_of}
use Rattle.mars_match.specs.Placement.{FitsTwo, drawn, starts_of, next_seed}
use Rattle.mars_match.specs.Rounds.{table_of}
use Rattle.mars_match.specs.declared.counts.Counts.{Counts}
use Rattle.mars_match.specs.declared.fault.MatchFault.TheVariants as fight
use Rattle.mars_match.specs.declared.placement.PlaceFault.TheVariants.{NoRoom}
use Rattle.mars_match.specs.declared.placement.PlaceFault.TheVariants as place
use Rattle.mars_match.specs.declared.setup.Setup.{Setup}
use Rattle.mars_match.specs.Examples.Placements.{sizes}
use Rattle.mars_c.specs.Settings.{parameters_in}
use Rattle.mars_c.specs.Battles.{round_start_state, placed_in}
use Rattle.mars_c.specs.Cells.{plain_cell}
use Rattle.mars_c.specs.Blocks.{IsWritten, Means, played_rows}
use Rattle.mars_c.specs.Codes.{block_fault_of, fault_of, numbered}
use Rattle.mars_c.specs.Contests.{population}
use Rattle.mars_c.specs.Entrants.{AreEntrants, IsEntrant, is_name, named, plain_name, plain_program}
use Rattle.mars_c.specs.Records.{change_of, turn_row}
use Rattle.mars_c.specs.Touches.{touched_row}
use Rattle.mars_c.specs.Outcomes.{IsLineup, indices_of, is_counting, plain_fate, rows_for, seeded}
use Rattle.mars_c.specs.Refusals.{IsOutside, LengthsDiffer, fight_refusal}
use Rattle.mars_c.specs.declared.faults.BlockRefusal.TheVariants as blocks
use Rattle.mars_c.specs.declared.faults.CallRefusal.TheVariants.{Assembly, Battle, Lineup, Load, OutOfMemory, Placement, Score, Warrior}
use Rattle.mars_c.specs.declared.ranges.SettingsFault.TheVariants.{Lengths, Position, Rounds, Seed}
use Rattle.mars_c.specs.declared.cells.MarsCell.{MarsCell}
use Rattle.mars_c.specs.declared.ranges.LineupFault.TheVariants as lineup
use Rattle.mars_c.specs.declared.outcomes.MarsLineup.{MarsLineup}
use Rattle.mars_c.specs.declared.settings.MarsSettings.{MarsSettings}
use Rattle.mars_c.specs.declared.warriors.EntrantFault.TheVariants as entrant
use Rattle.mars_c.specs.declared.warriors.MarsWarrior.{MarsWarrior}

-- A limit of 0 is the core size. Each other number is the parameter itself.
pub settings_are_parameters : parameters_in (record { core = 8000; processes = 64; cycles = 80000; read_limit = 0; write_limit = 300; longest = 100; distance = 200; rounds = 1; seed = 2; position = 3 })
    ≡ record { core_size = 8000; processes = 64; cycles = 80000; read_limit = 8000; write_limit = 300; max_length = 100; distance = 200 }
settings_are_parameters = refl

-- The caller gets the number of the wrong line of a load file, here 3.
pub load_file_is_reported : fault_of (Load (Syntax 3)) ≡ record { code = 6; number = 1; problem = 0; expression = 0; line = 3; warrior = 0; begin = 0; end = 0 }
load_file_is_reported = refl

-- Cell 4 of the second warrior has a number outside the core; the third warrior has a wrong start.
pub warriors_are_reported : (fault_of (Warrior 1 (entrant.Field 4)) ≡ record { code = 13; number = 4; problem = 0; expression = 0; line = 4; warrior = 1; begin = 0; end = 0 })
    × (fault_of (Warrior 2 entrant.Start) ≡ record { code = 13; number = 2; problem = 0; expression = 0; line = 0; warrior = 2; begin = 0; end = 0 })
warriors_are_reported = (refl, refl)

-- A name has at most 60 bytes, and each byte is printable.
pub names_are_short : (is_name (replicate 60 126) ≡ true) × (is_name (replicate 61 126) ≡ false) × (is_name (127 ∷ []) ≡ false)
names_are_short = (refl, refl, refl)

-- The third lineup has an index that no warrior has.
pub lineup_is_reported : fault_of (Lineup 2 lineup.Index) ≡ record { code = 14; number = 2; problem = 0; expression = 0; line = 0; warrior = 2; begin = 0; end = 0 }
lineup_is_reported = refl

-- The debugger's history is setting number 6.
pub history_is_reported : block_fault_of blocks.History ≡ numbered 2 6
history_is_reported = refl

-- The count of a loop in line 2 divides by zero.
pub source_is_reported : fault_of (Assembly (record { line = 2; problem = Text (Expression DivideByZero); token = None })) ≡ record { code = 5; number = 1; problem = 10; expression = 3; line = 2; warrior = 0; begin = 0; end = 0 }
source_is_reported = refl

-- A number in an operand of line 4 exceeds 64 bits. The expression begins with the bytes 30 and 31 of the source.
pub operand_is_reported : fault_of (Assembly (record { line = 4; problem = assembly.Expression Range; token = Some (record { from = 30; to = 32 }) }))
    ≡ record { code = 5; number = 4; problem = 0; expression = 4; line = 4; warrior = 0; begin = 30; end = 32 }
operand_is_reported = refl

-- The cell at address 7, the queue of warrior 2 and the minimum distance are wrong in three blocks.
pub blocks_are_reported : (block_fault_of (blocks.Block (block.Cell 7)) ≡ record { code = 11; number = 5; problem = 0; expression = 0; line = 7; warrior = 0; begin = 0; end = 0 })
    × (block_fault_of (blocks.Block (block.Queue 2)) ≡ record { code = 11; number = 6; problem = 0; expression = 0; line = 0; warrior = 2; begin = 0; end = 0 })
    × (block_fault_of (blocks.Block (block.Parameters Distance)) ≡ record { code = 11; number = 3; problem = 6; expression = 0; line = 0; warrior = 0; begin = 0; end = 0 })
blocks_are_reported = (refl, refl, refl)

-- The numbers 1, 2 and 7 of errors of edits. The last of these errors is about the edit at index 3.
pub edits_are_reported : (block_fault_of (blocks.NoSuchEdit 0) ≡ numbered 12 1) × (block_fault_of (blocks.Edit 0 Address) ≡ numbered 12 2) × (block_fault_of (blocks.Edit 3 QueueFull) ≡ record (numbered 12 7) { warrior = 3 })
edits_are_reported = (refl, refl, refl)

-- The edit kills the process at index 2 of warrior 1, whatever the address and the cell are.
pub kill_is_meant : Means (record { what = 3; warrior = 1; place = 2; address = 9; cell = record { op = 99; modifier = 0; a_mode = 0; b_mode = 0; a = 0; b = 0 } }) (KillProcess 1 2)
kill_is_meant = (refl, refl, refl)

-- The cells are DJN.BA >7, {3 and SNE.X <1, *2.
pub parts_have_their_numbers :
    (plain_cell (cell_of Djn Ba BPostincrement 7 APredecrement 3) ≡ record { op = 10; modifier = 3; a_mode = 7; b_mode = 4; a = 7; b = 3 })
    × (plain_cell (cell_of Sne X BPredecrement 1 AIndirect 2) ≡ record { op = 12; modifier = 5; a_mode = 5; b_mode = 2; a = 1; b = 2 })
parts_have_their_numbers = (refl, refl)

-- The imp writes one cell, and its process continues there.
pub row_of_an_imp : turn_row (lone of_eight (eight (imp ∷ [])) (0 ∷ [])) ≡ record {
  warrior = 0;
  address = 0;
  next = 0;
  cycle = 1;
  died = 0;
  changes = 1;
  queued = 1;
  change = record {
    address = 1;
    before = record { op = 0; modifier = 4; a_mode = 1; b_mode = 1; a = 0; b = 0 };
    after = record { op = 1; modifier = 6; a_mode = 1; b_mode = 1; a = 0; b = 1 };
  } ∷ change_of None ∷ change_of None ∷ [];
  process = 1 ∷ 0 ∷ [];
}
unfolding the_machine
row_of_an_imp = refl

-- MOV.I $1, $2 reads the cell after it, and writes to the second cell after it.
pub touched_by_a_move : touched_row (lone of_eight (eight (cell_of Mov I Direct 1 Direct 2 ∷ [])) (0 ∷ [])) ≡ record { count = 4; address = 0 ∷ 1 ∷ 2 ∷ 2 ∷ 0 ∷ 0 ∷ 0 ∷ 0 ∷ [] }
unfolding the_machine touched
touched_by_a_move = refl

-- The first of two warriors has its turn, and then the second is next.
pub next_is_reported : (turn_row (battle_of of_eight (eight (imp ∷ [])) ((0 ∷ []) ∷ (4 ∷ []) ∷ []))).next ≡ 1
unfolding the_machine
next_is_reported = refl

-- A split writes nothing and queues two processes.
pub row_of_a_split : turn_row (lone of_eight (eight (cell_of Spl B Direct 5 Immediate 0 ∷ [])) (0 ∷ 3 ∷ [])) ≡ record {
  warrior = 0;
  address = 0;
  next = 0;
  cycle = 1;
  died = 0;
  changes = 0;
  queued = 2;
  change = change_of None ∷ change_of None ∷ change_of None ∷ [];
  process = 1 ∷ 5 ∷ [];
}
unfolding the_machine
row_of_a_split = refl

-- An empty cell kills the only process, so the battle is over after one turn.
pub row_of_a_death : turn_row (lone of_eight (eight []) (6 ∷ [])) ≡ record {
  warrior = 0;
  address = 6;
  next = 0;
  cycle = 0;
  died = 1;
  changes = 0;
  queued = 0;
  change = change_of None ∷ change_of None ∷ change_of None ∷ [];
  process = 0 ∷ 0 ∷ [];
}
unfolding the_machine
row_of_a_death = refl

-- Only one turn is left, so at most two turns fill only the first row, as one turn does. No turn fills no row.
pub rows_are_played : (played_rows (λ s. s.turns) 2 (lone of_eight (eight []) (6 ∷ [])) (7 ∷ 7 ∷ []) ≡ 0 ∷ 7 ∷ [])
    × (played_rows (λ s. s.turns) 1 (lone of_eight (eight []) (6 ∷ [])) (7 ∷ 7 ∷ []) ≡ 0 ∷ 7 ∷ [])
    × (played_rows (λ s. s.turns) 0 (lone of_eight (eight []) (6 ∷ [])) (7 ∷ 7 ∷ []) ≡ 7 ∷ 7 ∷ [])
unfolding the_machine
rows_are_played = (refl, refl, refl)

-- Two warriors after 9 turns and 11 cycles. The second one died in turn 10. No battle reaches this state: its numbers differ, so that
-- none can stand for another.
abbrev of_many_numbers : State
of_many_numbers = record {
  params = record { core_size = 2; processes = 3; cycles = 50; read_limit = 4; write_limit = 5; max_length = 6; distance = 7 };
  core = imp ∷ cell_of Djn Ba BPostincrement 13 APredecrement 14 ∷ [];
  queues = (1 ∷ 0 ∷ []) ∷ [] ∷ [];
  next = 0;
  cycle = 11;
  turns = 9;
  deaths = record { warrior = 1; turns = 10 } ∷ [];
}

-- A block has 16 words of fields, the number of processes of each of 16 warriors, 16 deaths of two words, three words for each cell, and
-- the processes.
pub block_is_laid_out : block_of of_many_numbers
    ≡ (22167885 ∷ 72 ∷ 2 ∷ 3 ∷ 50 ∷ 4 ∷ 5 ∷ 6 ∷ 7 ∷ 2 ∷ 9 ∷ 11 ∷ 0 ∷ 1 ∷ 1 ∷ 0 ∷ [])
    ++ (2 ∷ replicate 15 0) ++ (1 ∷ 10 ∷ replicate 30 0) ++ 16844289 ∷ 0 ∷ 1 ∷ 67568394 ∷ 13 ∷ 14 ∷ 1 ∷ 0 ∷ []
unfolding block_of head_of field_words ends
block_is_laid_out = refl

-- The words after a block stay.
pub words_after_the_block_stay : IsWritten of_many_numbers (replicate 72 3 ++ 7 ∷ 8 ∷ []) (block_of of_many_numbers ++ 7 ∷ 8 ∷ [])
unfolding block_of head_of field_words ends
words_after_the_block_stay = refl

-- The setup of one round of one cycle in a core of four cells, with this formula.
abbrev by_formula : List ℕ → Setup
by_formula text = record {
  params = sizes 4 2;
  plan = record {
    rounds = 1;
    seed = 1;
    fixed = None;
  };
  formula = elim (formula_of text) [ Ok formula ↦ formula | Err fault ↦ record { tokens = []; names = [] } ];
}

abbrev one_cell : Op → Modifier → WarriorValue
one_cell op modifier = record { name = []; author = []; cells = cell_of op modifier Direct 0 Direct 0 ∷ []; start = 0 }

-- JMP.B $0, $0 survives, and DAT.F $0, $0 dies.
abbrev stay : WarriorValue
stay = one_cell Jmp B

abbrev dead : WarriorValue
dead = one_cell Dat F

-- The first round draws once for two warriors, so the second round uses the second draw.
pub second_round_draws_again : placed_in (sizes 8000 100) 2 None 1 1 ≡ Ok (0 ∷ 1139 ∷ [])
unfolding starts_of next_seed drawn
second_round_draws_again = refl

pub fixed_position_stays : placed_in (sizes 8000 100) 2 (Some 4000) 5 1 ≡ Ok (0 ∷ 4000 ∷ [])
fixed_position_stays = refl

-- In round 1 the second warrior has the first turn, from its own starting position.
pub second_round_begins_with_the_second : (round_start_state (by_formula (codes "0")) (stay ∷ dead ∷ []) 1 >>= λ s. Ok s.queues) ≡ Ok ((2 ∷ []) ∷ (0 ∷ []) ∷ [])
unfolding starts_of next_seed drawn start_state overlap the_machine
second_round_begins_with_the_second = refl

-- The settings of the nano hill, with this number of rounds, this seed and this position.
abbrev pub nano : ℕ → ℕ → ℕ → MarsSettings
nano rounds seed position = record {
  core = 80;
  processes = 80;
  cycles = 800;
  read_limit = 0;
  write_limit = 0;
  longest = 5;
  distance = 5;
  rounds = rounds;
  seed = seed;
  position = position;
}

-- A match of no rounds or of 100,001 is out of range; one of 1 or 100,000 is not.
pub rounds_are_checked : IsOutside (nano 0 1 0) 2 Rounds × IsOutside (nano 100001 1 0) 2 Rounds
    × (IsOutside (nano 1 1 0) 2 Rounds → ⊥) × (IsOutside (nano 100000 1 0) 2 Rounds → ⊥)
rounds_are_checked = (λ r. omega (arith, r), λ r. omega (arith, r), λ outside. outside (omega arith, omega arith), λ outside. outside (omega arith, omega arith))

pub seeds_are_checked : IsOutside (nano 1 0 0) 2 Seed × IsOutside (nano 1 2147483647 0) 2 Seed
    × (IsOutside (nano 1 1 0) 2 Seed → ⊥) × (IsOutside (nano 1 2147483646 0) 2 Seed → ⊥)
seeds_are_checked = (λ s. omega (arith, s), λ s. omega (arith, s), λ outside. outside (omega arith, omega arith), λ outside. outside (omega arith, omega arith))

-- A position that fits these settings fits the parameters that they make.
fits_two : (position : ℕ) (p : Parameters) → checked_parameters (parameters_in (nano 1 1 position)) ≡ Ok p → FitsTwo (parameters_in (nano 1 1 position)) 2 (Some position) → FitsTwo p 2 (Some position)
fits_two position p checked fixed = let same : parameters_in (nano 1 1 position) ≡ p = cc in subst (λ p. FitsTwo p 2 (Some position)) same fixed

-- The second of two warriors may start at 5 to 75, and three warriors may have no position. Position 0 stands for none.
pub positions_are_checked : IsOutside (nano 1 1 4) 2 Position × IsOutside (nano 1 1 76) 2 Position × IsOutside (nano 1 1 5) 3 Position
    × (IsOutside (nano 1 1 5) 2 Position → ⊥) × (IsOutside (nano 1 1 75) 2 Position → ⊥) × (IsOutside (nano 1 1 0) 3 Position → ⊥)
positions_are_checked = (
  (parameters_in (nano 1 1 4), refl, λ fixed. omega (arith, fixed.1)),
  (parameters_in (nano 1 1 76), refl, λ fixed. omega (arith, fixed.2)),
  (parameters_in (nano 1 1 5), refl, λ fixed. omega (arith, fixed.0)),
  λ outside. outside.2 (fits_two 5 outside.0 outside.1 (refl, omega arith, omega arith)),
  λ outside. outside.2 (fits_two 75 outside.0 outside.1 (refl, omega arith, omega arith)),
  λ outside. outside.2 tt,
)

-- The numbers of MOV.I $0, $1.
abbrev numbers : MarsCell
numbers = record { op = 1; modifier = 6; a_mode = 1; b_mode = 1; a = 0; b = 1 }

-- The numbers of DAT.F $0, $0.
abbrev other : MarsCell
other = record { op = 0; modifier = 4; a_mode = 1; b_mode = 1; a = 0; b = 0 }

abbrev of_length : ℕ → ℕ → MarsWarrior
of_length length start = record { length = length; start = start }

-- Warriors of 2 and 1 cells need three cells; four cells are an error.
pub lengths_are_checked : LengthsDiffer (numbers ∷ numbers ∷ numbers ∷ numbers ∷ []) (of_length 2 0 ∷ of_length 1 0 ∷ [])
    × (LengthsDiffer (numbers ∷ numbers ∷ numbers ∷ []) (of_length 2 0 ∷ of_length 1 0 ∷ []) → ⊥)
lengths_are_checked = (λ same. cc, λ outside. outside refl)

-- A warrior that consists of imps.
abbrev imps : ℕ → ℕ → WarriorValue
imps length start = record { name = []; author = []; cells = replicate length imp; start = start }

-- Imps fit a core of 80 cells. Below, the second of two warriors starts at its second cell.
fit : (n : ℕ) → All (FitsCore 80) (replicate n imp)
fit zero = All-nil (FitsCore 80)
fit (suc n) = All-cons (FitsCore 80) imp (replicate n imp) (record { a = omega arith; b = omega arith }) (fit n)

pub warriors_lie_one_after_another : AreEntrants (parameters_in (nano 1 1 0)) (numbers ∷ numbers ∷ numbers ∷ []) (of_length 1 0 ∷ of_length 2 1 ∷ []) (imps 1 0 ∷ imps 2 1 ∷ [])
warriors_lie_one_after_another = (
  omega arith,
  record { cells_same = refl; fits = fit 1; short = omega arith; start_same = refl; inside = omega arith; name_same = refl; author_same = refl },
  (omega arith, record { cells_same = refl; fits = fit 2; short = omega arith; start_same = refl; inside = omega arith; name_same = refl; author_same = refl }, refl),
)

-- A warrior starts at one of its cells and is not longer than the maximum. Its cells, start and names are those given.
pub wrong_warriors :
    ((w : WarriorValue) → IsEntrant (parameters_in (nano 1 1 0)) (numbers ∷ []) 1 [] [] w → ⊥)
    × ((w : WarriorValue) → IsEntrant (parameters_in (nano 1 1 0)) (replicate 6 numbers) 0 [] [] w → ⊥)
    × (IsEntrant (parameters_in (nano 1 1 0)) (numbers ∷ numbers ∷ []) 1 [] [] (imps 2 0) → ⊥)
    × (IsEntrant (parameters_in (nano 1 1 0)) (numbers ∷ []) 0 [] [] (imps 2 0) → ⊥)
    × (IsEntrant (parameters_in (nano 1 1 0)) (numbers ∷ []) 0 (codes "A") [] (imps 1 0) → ⊥)
    × (IsEntrant (parameters_in (nano 1 1 0)) (numbers ∷ []) 0 [] (codes "A") (imps 1 0) → ⊥)
wrong_warriors = (
  λ w e. omega (arith, e.inside),
  λ w e. omega (arith, e.short),
  λ e. let start = e.start_same in omega (arith, start),
  λ e. let cells = e.cells_same in cc,
  λ e. let name = e.name_same in cc,
  λ e. let author = e.author_same in cc,
)

-- Each warrior has its own cells: the second one is not read from the cells of the first.
pub each_warrior_has_its_own_cells : AreEntrants (parameters_in (nano 1 1 0)) (numbers ∷ other ∷ []) (of_length 1 0 ∷ of_length 1 0 ∷ []) (imps 1 0 ∷ imps 1 0 ∷ []) → ⊥
each_warrior_has_its_own_cells all = let op = ap (λ (cells : List MarsCell). (slice_index_or cells 0 numbers).op) all.2.1.cells_same in omega (arith, op)

-- A name is followed by zeros, and ends before the first zero.
pub name_has_64_bytes : plain_name (codes "A") ≡ 65 ∷ replicate 63 0
name_has_64_bytes = refl

pub name_is_padded : named (plain_name (codes "Imp")) ≡ codes "Imp"
name_is_padded = refl

pub program_is_reported : (plain_program (record { name = codes "Imp"; author = []; cells = imp ∷ imp ∷ []; start = 1 })).warrior ≡ of_length 2 1
program_is_reported = refl

-- Every kind of failed allocation in a match is the same refusal, `OutOfMemory`.
pub fights_are_refused : (fight_refusal (fight.Place NoRoom) ≡ Placement NoRoom) × (fight_refusal (fight.Battle FieldOutside) ≡ Battle FieldOutside)
    × (fight_refusal (fight.Score DivideByZero) ≡ Score DivideByZero) × (fight_refusal fight.OutOfMemory ≡ OutOfMemory)
    × (fight_refusal (fight.Place place.OutOfMemory) ≡ OutOfMemory) × (fight_refusal (fight.Battle battle.OutOfMemory) ≡ OutOfMemory)
fights_are_refused = (refl, refl, refl, refl, refl, refl)

-- The first warrior is the candidate, and the others are its opponents.
pub candidates_come_first : population (by_formula (codes "(W*W-1)/S")) 1 (stay ∷ dead ∷ dead ∷ []) ≡ Ok (record { points = pos 6; wins = 2; ties = 0; losses = 0 } ∷ [])
unfolding table_of starts_of drawn next_seed survivors_of_round end_of scanned value_of tree_within the_machine
candidates_come_first = refl

-- A lineup has its own seed, or the seed of the settings if its own seed is 0.
pub seeds_of_lineups : ((seeded (nano 3 7 0) 9).seed ≡ 9) × ((seeded (nano 3 7 0) 0).seed ≡ 7)
seeds_of_lineups = (refl, refl)

-- A lineup whose count is two: only the first two of its three indices count.
abbrev of_two : MarsLineup
of_two = record { seed = 0; count = 2; counting = 0; warrior = 4 ∷ 1 ∷ 9 ∷ [] }

pub lineup_has_two : indices_of of_two ≡ 4 ∷ 1 ∷ []
lineup_has_two = refl

-- Lineups of 0 and of 17 warriors are wrong, and one with an index that no warrior has.
pub wrong_lineups : (IsLineup 5 (record { seed = 0; count = 0; counting = 0; warrior = [] }) → ⊥) × (IsLineup 5 (record { seed = 0; count = 17; counting = 0; warrior = [] }) → ⊥)
    × (IsLineup 4 of_two → ⊥)
wrong_lineups = (λ l. omega (arith, l.warriors.0), λ l. omega (arith, l.warriors.1), λ l. let inside = l.indices 0 0 (omega arith) in omega (arith, inside))

-- Three rounds of two lineups of two warriors have twelve rows.
pub rows_are_counted : rows_for (nano 3 7 0) (of_two ∷ of_two ∷ []) ≡ 12
rows_are_counted = refl

abbrev deeds : Counts
deeds = record { turns = 1; spawned = 2; executed = 3; written = 4; touched = 6 }

pub fates_are_numbers : (plain_fate (record { survived = true; turns = 5; start = 9; counts = deeds })
    ≡ record { survived = 1; turns = 5; start = 9; own_turns = 1; spawned = 2; executed = 3; written = 4; touched = 6 })
    × ((plain_fate (record { survived = false; turns = 5; start = 9; counts = deeds })).survived ≡ 0)
fates_are_numbers = (refl, refl)

-- Every value of `counting` except 0 requests counts of what the warriors do.
pub lineup_is_counted : (is_counting of_two ≡ false) × (is_counting (record { seed = 0; count = 2; counting = 7; warrior = [] }) ≡ true)
lineup_is_counted = (refl, refl)
