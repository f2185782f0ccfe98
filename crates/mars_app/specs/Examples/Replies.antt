-- Examples of the lines that the debugger replies.
use Rattle.std.specs.Prelude.{◌≡◌, ℕ, [], ◌∷◌, ◌++◌, Ok, Err, codes, refl}
use Rattle.std.specs.Fmt.{digits}
use Rattle.mars_cell.specs.declared.instruction.Cell.{Cell}
use Rattle.mars_cell.specs.declared.instruction.Op.TheVariants as op
use Rattle.mars_cell.specs.declared.instruction.Modifier.TheVariants as modifier
use Rattle.mars_cell.specs.declared.instruction.Mode.TheVariants.{Direct}
use Rattle.mars_core.specs.State.{State, ends}
use Rattle.mars_session.specs.declared.calls.Standing.{Standing}
use Rattle.mars_session.specs.declared.calls.Refusal.TheVariants.{Count, Address, FieldOutside, NoSuchWarrior, NoSuchProcess, WarriorDead, QueueFull, Over, CyclePassed, NothingToUndo, NothingToRedo, NotInHistory, JournalFull, OutOfMemory, Forgotten}
use Rattle.mars_app.specs.Debugger.Replies.{refusal_text, reply_text}
use Rattle.mars_app.specs.Debugger.Readings.{line_at, list_text, queue_text, show_text, texts, warrior_text}

abbrev standing : Standing
standing = record { turns = 12; cycle = 5; next = 1; alive = 2; position = 3; last = 200000 }

pub replies_are_written :
    (reply_text (Ok standing) ≡ codes "turn 12 cycle 5 next 1 alive 2 at 3/200000\n")
    × (reply_text (Err Count) ≡ codes "refused 1 Count\n")
    × (reply_text (Err Address) ≡ codes "refused 2 Address\n")
    × (reply_text (Err FieldOutside) ≡ codes "refused 3 FieldOutside\n")
    × (reply_text (Err NoSuchWarrior) ≡ codes "refused 4 NoSuchWarrior\n")
    × (reply_text (Err NoSuchProcess) ≡ codes "refused 5 NoSuchProcess\n")
    × (reply_text (Err WarriorDead) ≡ codes "refused 6 WarriorDead\n")
    × (reply_text (Err QueueFull) ≡ codes "refused 7 QueueFull\n")
    × (reply_text (Err Over) ≡ codes "refused 8 Over\n")
    × (reply_text (Err (CyclePassed 80000)) ≡ codes "refused 9 CyclePassed 80000\n")
    × (reply_text (Err NothingToUndo) ≡ codes "refused 10 NothingToUndo\n")
    × (reply_text (Err NothingToRedo) ≡ codes "refused 11 NothingToRedo\n")
    × (reply_text (Err (NotInHistory 0 12)) ≡ codes "refused 12 NotInHistory 0 12\n")
    × (reply_text (Err (JournalFull 2)) ≡ codes "refused 13 JournalFull 2\n")
    × (reply_text (Err OutOfMemory) ≡ codes "refused 14 OutOfMemory\n")
    × (reply_text (Err Forgotten) ≡ codes "refused 15 Forgotten\n")
unfolding refusal_text digits
replies_are_written = (refl, refl, refl, refl, refl, refl, refl, refl, refl, refl, refl, refl, refl, refl, refl, refl)

abbrev cell : ℕ → Cell
cell b = record { op = op.Jmp; modifier = modifier.B; a_mode = Direct; a = 0; b_mode = Direct; b = b }

-- A core of three cells. The first warrior has two processes; the second died in the fourth turn.
abbrev state : State
state = record {
  params = record { core_size = 3; processes = 8; cycles = 10; read_limit = 3; write_limit = 3; max_length = 1; distance = 1 };
  core = cell 0 ∷ cell 1 ∷ cell 2 ∷ [];
  queues = (2 ∷ 0 ∷ []) ∷ [] ∷ [];
  deaths = record { warrior = 1; turns = 4 } ∷ [];
  next = 0;
  cycle = 2;
  turns = 4;
}

-- A list wraps around the core. An address outside the core is refused, and so are 0 cells and more than 1,000,000 cells.
pub cells_are_listed :
    (list_text state 2 2 ≡ codes "2 JMP.B $0, $-1\n" ++ codes "0 JMP.B $0, $0\n")
    × (list_text state 3 1 ≡ codes "refused 2 Address\n")
    × (list_text state 3 0 ≡ codes "refused 1 Count\n")
    × (list_text state 0 1000001 ≡ codes "refused 1 Count\n")
unfolding list_text texts line_at refusal_text digits
cells_are_listed = (refl, refl, refl, refl)

pub queues_are_listed :
    (queue_text state 0 ≡ codes "queue 0: 2 0\n")
    × (queue_text state 1 ≡ codes "queue 1:\n")
    × (queue_text state 2 ≡ codes "refused 4 NoSuchWarrior\n")
unfolding queue_text refusal_text digits
queues_are_listed = (refl, refl, refl)

-- If only one of several warriors is alive, the battle is over.
pub battle_is_shown : show_text standing state ≡
    codes "turn 12 cycle 5 next 1 alive 2 at 3/200000\n"
    ++ codes "warrior 0 processes 2\n"
    ++ codes "warrior 1 dead 4\n"
    ++ codes "battle over\n"
unfolding show_text texts warrior_text ends digits
battle_is_shown = refl
