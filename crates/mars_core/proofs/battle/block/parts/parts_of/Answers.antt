use Rattle.std.proofs.Common.{arith, ap, refl, sym, subst, ◌≡◌, ◌∙◌, ◌+◌, ◌-◌, ◌*◌, ℕ, List, length, get_or, take, drop}
use Rattle.std.specs.Prelude.{sum}
use Rattle.mars_core.specs.Block.{lengths_of, head_of, params_in}
use Rattle.mars_cell.specs.Parameters.{AreInRange, Parameters}
use Rattle.mars_core.proofs.BlockParts.{spelled_head, spelled_cells, spelled_processes, spelled_long, head_mark, head_params, head_warriors, head_counts, pieces}
use Rattle.mars_core.proofs.battle.block.parts.parts_of.Goals as goal
use Rattle.mars_core.proofs.battle.block.parts.parts_of.Goals.{then-others-cell_words-via-then-others-cell_words, then-others-cell_words-via-else-others-cell_words+then-others-cell_words-2}

pub returns-then-words-lt-HEAD_WORDS-clause-none : goal.returns-then-words-lt-HEAD_WORDS-clause-none
returns-then-words-lt-HEAD_WORDS-clause-none c = λ s sp. omega (arith, spelled_long s c.args.words.now sp, c.if-words-lt-HEAD_WORDS.true)

pub returns-then-head-ne-BLOCK_MARK-clause-none : goal.returns-then-head-ne-BLOCK_MARK-clause-none
returns-then-head-ne-BLOCK_MARK-clause-none c = λ s sp.
    let head : c.split_at.result.0.now ≡ head_of s = c.split_at.ensures.front ∙ spelled_head s c.args.words.now sp in
    let mark : get_or c.split_at.result.0.now 0 0 ≡ 22167885 = ap (λ (l : List ℕ). get_or l 0 0) head ∙ head_mark s in
    omega (arith, mark, c.if-head-ne-BLOCK_MARK.true)

pub returns-in-Err-clause-none : goal.returns-in-Err-clause-none
returns-in-Err-clause-none c = λ s sp.
    let head : c.split_at.result.0.now ≡ head_of s = c.split_at.ensures.front ∙ spelled_head s c.args.words.now sp in
    let params : params_in c.split_at.result.0.now ≡ s.params = ap params_in head ∙ head_params s in
    c.in-Err.ensures.none (subst AreInRange (sym params) sp.valid.params)

pub returns-then-warriors-lt1-clause-none : goal.returns-then-warriors-lt1-clause-none
returns-then-warriors-lt1-clause-none c = λ s sp.
    let head : c.split_at.result.0.now ≡ head_of s = c.split_at.ensures.front ∙ spelled_head s c.args.words.now sp in
    let warriors : get_or c.split_at.result.0.now 9 0 ≡ length s.queues = ap (λ (l : List ℕ). get_or l 9 0) head ∙ head_warriors s in
    omega (arith, warriors, sp.valid.some, sp.valid.few, c.then-warriors-lt1.either)

pub returns-then-others-cell_words-clause-none : goal.returns-then-others-cell_words-clause-none
returns-then-others-cell_words-clause-none c = λ s sp.
    let head : c.split_at.result.0.now ≡ head_of s = c.split_at.ensures.front ∙ spelled_head s c.args.words.now sp in
    let warriors : get_or c.split_at.result.0.now 9 0 ≡ length s.queues = ap (λ (l : List ℕ). get_or l 9 0) head ∙ head_warriors s in
    let counts : take (16 + get_or c.split_at.result.0.now 9 0 - 16) (drop 16 c.split_at.result.0.now) ≡ lengths_of s.queues =
    ap (λ (l : List ℕ). take (16 + get_or c.split_at.result.0.now 9 0 - 16) (drop 16 l)) head ∙ head_counts s (16 + get_or c.split_at.result.0.now 9 0 - 16) sp.valid (omega (arith, warriors)) in
    let sums : c.total-process_words.result ≡ sum (lengths_of s.queues) = c.total-process_words.ensures ∙ ap sum counts in
    let params : c.in-Ok.params ≡ s.params = c.in-Ok.ensures.params ∙ ap params_in head ∙ head_params s in
    let same : c.core_size.result ≡ s.params.core_size = c.core_size.ensures.value ∙ ap (λ (p : Parameters). p.core_size) params in
    let size : 3 * c.core_size.result ≡ 3 * length s.core = omega (arith, same, sp.valid.core.size) in
    let long = spelled_long s c.args.words.now sp in
    elim c.then-others-cell_words.branch [
      | then-others-cell_words-via-then-others-cell_words w ↦ omega (arith, size, long, c.split_at.ensures.back_len, w.if-others-cell_words.true)
      | then-others-cell_words-via-else-others-cell_words+then-others-cell_words-2 w ↦ omega (arith, size, sums, long, c.split_at.ensures.back_len, w.if-others-cell_words-2.true, w.if-others-cell_words.false)
    ]

pub returns-clause-words : goal.returns-clause-words
returns-clause-words c =
    pieces c.args.words.now 64 (3 * c.core_size.result) c.total-process_words.result c.split_at.result.0.now c.split_at.result.1.now c.split_at-2.result.0.now c.split_at-2.result.1.now _
    c.split_at.ensures.front c.split_at.ensures.back c.split_at-2.ensures.front c.split_at-2.ensures.back refl
    (omega (arith, c.if-others-cell_words-2.false, c.if-others-cell_words.false, c.split_at.ensures.back_len))

pub returns-clause-parts : goal.returns-clause-parts
returns-clause-parts c = λ s sp.
    let head : c.split_at.result.0.now ≡ head_of s = c.split_at.ensures.front ∙ spelled_head s c.args.words.now sp in
    let warriors : get_or c.split_at.result.0.now 9 0 ≡ length s.queues = ap (λ (l : List ℕ). get_or l 9 0) head ∙ head_warriors s in
    let counts : take (16 + get_or c.split_at.result.0.now 9 0 - 16) (drop 16 c.split_at.result.0.now) ≡ lengths_of s.queues =
    ap (λ (l : List ℕ). take (16 + get_or c.split_at.result.0.now 9 0 - 16) (drop 16 l)) head ∙ head_counts s (16 + get_or c.split_at.result.0.now 9 0 - 16) sp.valid (omega (arith, warriors)) in
    let sums : c.total-process_words.result ≡ sum (lengths_of s.queues) = c.total-process_words.ensures ∙ ap sum counts in
    let params : c.in-Ok.params ≡ s.params = c.in-Ok.ensures.params ∙ ap params_in head ∙ head_params s in
    let same : c.core_size.result ≡ s.params.core_size = c.core_size.ensures.value ∙ ap (λ (p : Parameters). p.core_size) params in
    let size : 3 * c.core_size.result ≡ 3 * length s.core = omega (arith, same, sp.valid.core.size) in
    record {
      head = head;
      counts = counts;
      cells = c.split_at-2.ensures.front ∙ ap (take (3 * c.core_size.result)) c.split_at.ensures.back ∙ spelled_cells s c.args.words.now (3 * c.core_size.result) sp size;
      processes = ap (take c.total-process_words.result) (c.split_at-2.ensures.back ∙ ap (drop (3 * c.core_size.result)) c.split_at.ensures.back) ∙ spelled_processes s c.args.words.now (3 * c.core_size.result) c.total-process_words.result sp size sums;
    }

pub returns-in-Err-clause-wrong : goal.returns-in-Err-clause-wrong
returns-in-Err-clause-wrong c = c.in-Err.ensures.wrong c.args.words.now c.split_at.ensures.front
