use Rattle.std.proofs.Common.{◌≡◌, ◌∙◌, ◌≤◌, refl, ap, length, map, replicate, get_or, ℕ, ◌<◌}
use Rattle.std.proofs.lemmas.List.{with_items_is}
use Rattle.std.proofs.lemmas.Result.{IfOk-weaker}
use Rattle.mars_cell.specs.Limits.{max_core_size}
use Rattle.mars_match.specs.Counts.{counts_of, turns_to_end}
use Rattle.mars_match.specs.Code.Deeds.{counts_in, no_deeds, noted}
use Rattle.mars_match.specs.declared.counts.Counts.{Counts}
use Rattle.mars_match.proofs.Deeds.{counts_noted, length-noted, marks_noted}
use Rattle.mars_match.proofs.counts.count_to_end.Goals as goal

pub all_counts-requires : goal.all_counts-requires
all_counts-requires c =
    let s = c.args.battle.now in
    let long : length c.note_turns.new.deeds ≡ c.in_ok-deeds.deeds.len = ap length c.note_turns.ensures.deeds ∙ length-noted (turns_to_end s) c.deref_mut.result.now ∙ c.deref_mut.ensures.len in
    let all : c.deref.result.now ≡ noted (turns_to_end s) (replicate c.warriors.result (no_deeds c.core_size-core_size.result)) =
    c.deref.ensures.value ∙ with_items_is c.in_ok-deeds.deeds c.note_turns.new.deeds long ∙ rw (c.note_turns.ensures.deeds, c.deref_mut.ensures.value, c.in_ok-deeds.ensures) refl in
    let few : c.core_size-core_size.result ≤ max_core_size = rw c.core_size-core_size.ensures.value c.core_size-core_size.ensures.in_range.core_most in
    (c.core_size-core_size.result, few, rw all (marks_noted c.core_size-core_size.result c.warriors.result (turns_to_end s)))

pub returns-clause-counts : goal.returns-clause-counts
returns-clause-counts c =
    let s = c.args.battle.now in
    let long : length c.note_turns.new.deeds ≡ c.in_ok-deeds.deeds.len = ap length c.note_turns.ensures.deeds ∙ length-noted (turns_to_end s) c.deref_mut.result.now ∙ c.deref_mut.ensures.len in
    let all : c.deref.result.now ≡ noted (turns_to_end s) (replicate (length s.queues) (no_deeds s.params.core_size)) =
    c.deref.ensures.value ∙ with_items_is c.in_ok-deeds.deeds c.note_turns.new.deeds long
    ∙ rw (c.note_turns.ensures.deeds, c.deref_mut.ensures.value, c.in_ok-deeds.ensures, c.warriors.ensures, c.core_size-core_size.ensures.value, c.params.ensures.value) refl in
    IfOk-weaker c.all_counts.result (λ counts. counts.items ≡ map counts_in c.deref.result.now) (λ counts. (place : ℕ) (d : Counts) → place < length s.queues → get_or counts.items place d ≡ counts_of s place)
    (λ counts e place d inside. rw (e, all) (counts_noted s place inside d)) c.all_counts.ensures
