-- The lines that the debugger replies.
use Rattle.std.specs.Prelude.{ℕ, List, ◌++◌, Result, Ok, Err, codes, decimal}
use Rattle.mars_session.specs.declared.calls.Standing.{Standing}
use Rattle.mars_session.specs.declared.calls.Refusal.{Refusal}
use Rattle.mars_session.specs.declared.calls.Refusal.TheVariants.{Count, Address, FieldOutside, NoSuchWarrior, NoSuchProcess, WarriorDead, QueueFull, Over, CyclePassed, NothingToUndo, NothingToRedo, NotInHistory, JournalFull, OutOfMemory, Forgotten}

-- The line of a standing, such as `turn 1 cycle 0 next 1 alive 2 at 1/1`.
abbrev pub standing_text : Standing → List ℕ
standing_text s =
    codes "turn " ++ decimal s.turns ++ codes " cycle " ++ decimal s.cycle ++ codes " next " ++ decimal s.next
    ++ codes " alive " ++ decimal s.alive ++ codes " at " ++ decimal s.position ++ codes "/" ++ decimal s.last ++ codes "\n"

-- The line of a refusal: its number, its name and its values.
unfoldable pub refusal_text : Refusal → List ℕ
refusal_text Count = codes "refused 1 Count\n"
refusal_text Address = codes "refused 2 Address\n"
refusal_text FieldOutside = codes "refused 3 FieldOutside\n"
refusal_text NoSuchWarrior = codes "refused 4 NoSuchWarrior\n"
refusal_text NoSuchProcess = codes "refused 5 NoSuchProcess\n"
refusal_text WarriorDead = codes "refused 6 WarriorDead\n"
refusal_text QueueFull = codes "refused 7 QueueFull\n"
refusal_text Over = codes "refused 8 Over\n"
refusal_text (CyclePassed now) = codes "refused 9 CyclePassed " ++ decimal now ++ codes "\n"
refusal_text NothingToUndo = codes "refused 10 NothingToUndo\n"
refusal_text NothingToRedo = codes "refused 11 NothingToRedo\n"
refusal_text (NotInHistory first last) = codes "refused 12 NotInHistory " ++ decimal first ++ codes " " ++ decimal last ++ codes "\n"
refusal_text (JournalFull room) = codes "refused 13 JournalFull " ++ decimal room ++ codes "\n"
refusal_text OutOfMemory = codes "refused 14 OutOfMemory\n"
refusal_text Forgotten = codes "refused 15 Forgotten\n"

-- The line of a call's reply.
abbrev pub reply_text : Result Standing Refusal → List ℕ
reply_text (Ok standing) = standing_text standing
reply_text (Err refusal) = refusal_text refusal
