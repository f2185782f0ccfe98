-- Calls with the same arguments have the same results.
use Rattle.std.proofs.Common.{◌≡◌, refl, ap, sym, subst, ◌∙◌, ℕ, List, [], ◌∷◌, length, map, take, drop, Option, Some, Result, Ok}
use Rattle.std.specs.Prelude.{codes}
use Rattle.std.proofs.lemmas.Option.{same_Some}
use denote.Enum.Bare.{Bare, tag_one}
use denote.Enum.Declared.{Declared, tag_of}
use Rattle.mars_cell.specs.Cells.{mode_index, modifier_index, op_index}
use Rattle.mars_cell.specs.ParameterFaults.{checked_parameters}
use Rattle.mars_cell.specs.Parameters.{Parameters}
use Rattle.mars_cell.specs.Warriors.{WarriorValue}
use Rattle.mars_cell.specs.contracts.instruction.Mode.{the_type as the_mode}
use Rattle.mars_cell.specs.contracts.instruction.Modifier.{the_type as the_modifier}
use Rattle.mars_cell.specs.contracts.instruction.Op.{the_type as the_op}
use Rattle.mars_cell.specs.declared.instruction.Cell.{Cell}
use Rattle.mars_cell.specs.declared.instruction.Mode.{Mode}
use Rattle.mars_cell.specs.declared.instruction.Mode.TheVariants.{Immediate}
use Rattle.mars_cell.specs.declared.instruction.Modifier.{Modifier}
use Rattle.mars_cell.specs.declared.instruction.Modifier.TheVariants.{A}
use Rattle.mars_cell.specs.declared.instruction.Op.{Op}
use Rattle.mars_cell.specs.declared.instruction.Op.TheVariants.{Dat}
use Rattle.mars_core.specs.State.{State}
use Rattle.mars_match.specs.Fates.{fates_of}
use Rattle.mars_match.specs.Leagues.{league_of}
use Rattle.mars_match.specs.Rounds.{table_of}
use Rattle.mars_match.specs.Tables.{RowValue}
use Rattle.mars_match.specs.declared.fates.Fate.{Fate}
use Rattle.mars_match.specs.declared.fault.MatchFault.{MatchFault}
use Rattle.mars_match.specs.declared.setup.Plan.{Plan}
use Rattle.mars_match.specs.declared.setup.Setup.{Setup}
use Rattle.mars_c.specs.Battles.{IsRound, round_start_state}
use Rattle.mars_c.specs.Cells.{plain_cell}
use Rattle.mars_c.specs.Contests.{plain_row, plain_sum, population}
use Rattle.mars_c.specs.Entrants.{AreEntrants, IsEntrant, Reads}
use Rattle.mars_c.specs.Laws.{EqualLeagues, EqualMatches, EqualOutcomes, EqualPopulations, EqualStarts}
use Rattle.mars_c.specs.Outcomes.{AreChosen, AreFought, IsFought, indices_of, is_counting, plain_fate, seeded}
use Rattle.mars_c.specs.Settings.{IsPlan, IsSetup, parameters_in}
use Rattle.mars_c.specs.declared.cells.MarsCell.{MarsCell}
use Rattle.mars_c.specs.declared.outcomes.MarsLineup.{MarsLineup}
use Rattle.mars_c.specs.declared.settings.MarsSettings.{MarsSettings}
use Rattle.mars_c.specs.declared.warriors.MarsWarrior.{MarsWarrior}

-- A function that is one to one maps different lists to different lists.
one_list : {A B : Type 0} (f : A → B) → ((x y : A) → f x ≡ f y → x ≡ y) → (xs ys : List A) → map f xs ≡ map f ys → xs ≡ ys
one_list f one [] [] e = refl
one_list f one [] (y ∷ ys) e = absurd (let no : [] ≡ f y ∷ map f ys = e in cc)
one_list f one (x ∷ xs) [] e = absurd (let no : f x ∷ map f xs ≡ [] = e in cc)
one_list f one (x ∷ xs) (y ∷ ys) e =
    let whole : f x ∷ map f xs ≡ f y ∷ map f ys = e in
    let first : f x ≡ f y = cc in
    let others : map f xs ≡ map f ys = cc in
    let here = one x y first in
    let there = one_list f one xs ys others in
    cc

pub ok_injective : {X F : Type 0} (x y : X) → ◌≡◌ {A = Result X F} (Ok x) (Ok y) → x ≡ y
ok_injective x y e = cc

-- ---- Cells

-- The numbers of opcodes, modifiers and modes are the tags of their variants.
op_tag : (x : Op) → tag_of the_op x ≡ op_index x
op_tag Dat = refl
op_tag other = refl

modifier_tag : (x : Modifier) → tag_of the_modifier x ≡ modifier_index x
modifier_tag A = refl
modifier_tag other = refl

mode_tag : (x : Mode) → tag_of the_mode x ≡ mode_index x
mode_tag Immediate = refl
mode_tag other = refl

one_variant : (T : Declared) → Bare T.parts → (number : T.D → ℕ) → ((x : T.D) → tag_of T x ≡ number x) → (x y : T.D) → number x ≡ number y → x ≡ y
one_variant T bare number tag x y e = tag_one T bare x y (tag x ∙ e ∙ sym (tag y))

pub one_cell : (x y : Cell) → plain_cell x ≡ plain_cell y → x ≡ y
one_cell x y e =
    let op = one_variant the_op tt op_index op_tag x.op y.op (ap (λ (c : MarsCell). c.op) e) in
    let modifier = one_variant the_modifier tt modifier_index modifier_tag x.modifier y.modifier (ap (λ (c : MarsCell). c.modifier) e) in
    let a_mode = one_variant the_mode tt mode_index mode_tag x.a_mode y.a_mode (ap (λ (c : MarsCell). c.a_mode) e) in
    let b_mode = one_variant the_mode tt mode_index mode_tag x.b_mode y.b_mode (ap (λ (c : MarsCell). c.b_mode) e) in
    let a : x.a ≡ y.a = ap (λ (c : MarsCell). c.a) e in
    let b : x.b ≡ y.b = ap (λ (c : MarsCell). c.b) e in
    let whole : ◌≡◌ {A = Cell} (record { op = x.op; modifier = x.modifier; a_mode = x.a_mode; b_mode = x.b_mode; a = x.a; b = x.b }) y =
    rw (op, modifier, a_mode, b_mode, a, b) refl in
    whole

-- ---- Warriors

module _ (p : Parameters) where
  one_warrior : (cells : List MarsCell) (start : ℕ) (name author : List ℕ) (v w : WarriorValue)
      → IsEntrant p cells start name author v → IsEntrant p cells start name author w → v ≡ w
  one_warrior cells start name author v w first second =
      let names : v.name ≡ w.name = first.name_same ∙ sym second.name_same in
      let authors : v.author ≡ w.author = first.author_same ∙ sym second.author_same in
      let same = one_list plain_cell one_cell v.cells w.cells (first.cells_same ∙ sym second.cells_same) in
      let starts : v.start ≡ w.start = first.start_same ∙ sym second.start_same in
      let whole : ◌≡◌ {A = WarriorValue} (record { name = v.name; author = v.author; cells = v.cells; start = v.start }) w =
      rw (names, authors, same, starts) refl in
      whole

  pub one_reading : (cells : List MarsCell) (entrants : List MarsWarrior) (vs ws : List WarriorValue) (rest : List MarsCell)
      → Reads p cells entrants vs rest → Reads p cells entrants ws rest → vs ≡ ws
  one_reading cells [] [] [] rest first second = refl
  one_reading cells [] [] (w ∷ ws) rest first second = absurd second
  one_reading cells [] (v ∷ vs) ws rest first second = absurd first
  one_reading cells (one ∷ others) [] ws rest first second = absurd first
  one_reading cells (one ∷ others) (v ∷ vs) [] rest first second = absurd second
  one_reading cells (one ∷ others) (v ∷ vs) (w ∷ ws) rest first second =
      let here = one_warrior (take one.length cells) one.start [] [] v w first.1 second.1 in
      let there = one_reading (drop one.length cells) others vs ws rest first.2 second.2 in
      cc

-- ---- Setups

one_plan : (s : MarsSettings) (a b : Plan) → IsPlan s a → IsPlan s b → a ≡ b
one_plan s a b first second =
    let rounds : a.rounds ≡ b.rounds = first.rounds ∙ sym second.rounds in
    let seed : a.seed ≡ b.seed = first.seed ∙ sym second.seed in
    let fixed : a.fixed ≡ b.fixed = first.fixed ∙ sym second.fixed in
    let whole : ◌≡◌ {A = Plan} (record { rounds = a.rounds; seed = a.seed; fixed = a.fixed }) b = rw (rounds, seed, fixed) refl in
    whole

one_setup : (s : MarsSettings) (text : List ℕ) (a b : Setup) → IsSetup s text a → IsSetup s text b → a ≡ b
one_setup s text a b first second =
    let params = ok_injective a.params b.params (sym first.params ∙ second.params) in
    let formula = ok_injective a.formula b.formula (sym first.formula ∙ second.formula) in
    let plan = one_plan s a.plan b.plan first.plan second.plan in
    let whole : ◌≡◌ {A = Setup} (record { params = a.params; plan = a.plan; formula = a.formula }) b = rw (params, plan, formula) refl in
    whole

module _ (s : MarsSettings) (text : List ℕ) (cells : List MarsCell) (entrants : List MarsWarrior) (a b : Setup) (vs ws : List WarriorValue)
    (first : IsSetup s text a) (second : IsSetup s text b) (are : AreEntrants a.params cells entrants vs) (too : AreEntrants b.params cells entrants ws) where
  -- Whatever depends only on the setup and the warriors is the same.
  pub same_given : {X : Type 0} (f : Setup → List WarriorValue → X) → f a vs ≡ f b ws
  same_given f =
      let setup = one_setup s text a b first second in
      let warriors = one_reading b.params cells entrants vs ws [] (subst (λ (a : Setup). AreEntrants a.params cells entrants vs) setup are) too in
      ap (λ a. f a vs) setup ∙ ap (f b) warriors

-- The tables of the match and of the league that a setup describes.
abbrev pub match_of : Setup → List WarriorValue → Result (List RowValue) MatchFault
match_of a ws = table_of a.params ws a.formula a.plan.fixed a.plan.rounds a.plan.seed

abbrev pub league_in : Setup → List WarriorValue → Result (List RowValue) MatchFault
league_in a ws = league_of a.params ws a.formula a.plan.fixed a.plan.rounds a.plan.seed

pub round_starts : (a : Setup) (ws : List WarriorValue) (round : ℕ) (s : State) → IsRound a ws round s → round_start_state a ws round ≡ Ok s
round_starts a ws round s (starts, placed, begins) = rw placed begins

-- ---- The laws

pub equal_matches : EqualMatches
equal_matches s text cells entrants one other (rows, (a, vs, first, are, fits, is), holds) (others, (b, ws, second, too, fitting, too_is), held) =
    let table = same_given s text cells entrants a b vs ws first second are too match_of in
    holds ∙ ap (map plain_row) (ok_injective rows others (sym is ∙ table ∙ too_is)) ∙ sym held

pub equal_leagues : EqualLeagues
equal_leagues s text cells entrants one other (rows, (a, vs, first, are, free, is), holds) (others, (b, ws, second, too, unplaced, too_is), held) =
    let table = same_given s text cells entrants a b vs ws first second are too league_in in
    let here : league_in a vs ≡ Ok rows = rw free is in
    let there : league_in b ws ≡ Ok others = rw unplaced too_is in
    holds ∙ ap (map plain_row) (ok_injective rows others (sym here ∙ table ∙ there)) ∙ sym held

pub equal_populations : EqualPopulations
equal_populations s text cells entrants one other long (a, vs, sums, first, are, fits, is, holds) (b, ws, others, second, too, fitting, too_is, held) =
    let all = same_given s text cells entrants a b vs ws first second are too (λ a ws. population a (length other) ws) in
    holds ∙ ap (map plain_sum) (ok_injective sums others (sym is ∙ ap (λ n. population a n vs) long ∙ all ∙ too_is)) ∙ sym held

pub equal_starts : EqualStarts
equal_starts s cells entrants round one other (a, vs, first, are, fits, inside, begins) (b, ws, second, too, fitting, within, starts) =
    let same = same_given s (codes "0") cells entrants a b vs ws first second are too (λ a ws. round_start_state a ws round) in
    ok_injective one other (sym (round_starts a vs round one begins) ∙ same ∙ round_starts b ws round other starts)

-- The fates of a lineup's match.
abbrev pub fates_in : MarsLineup → Parameters → Plan → List WarriorValue → Result (List Fate) MatchFault
fates_in lineup p plan us = fates_of (is_counting lineup) p us plan.fixed plan.rounds plan.seed

module _ (s : MarsSettings) (ws : List WarriorValue) where
  pub same_fates : (lineup : MarsLineup) (p q : Parameters) (a b : Plan) (us vs : List WarriorValue)
      → checked_parameters (parameters_in s) ≡ Ok p → checked_parameters (parameters_in s) ≡ Ok q
      → IsPlan (seeded s lineup.seed) a → IsPlan (seeded s lineup.seed) b
      → AreChosen ws (indices_of lineup) us → AreChosen ws (indices_of lineup) vs → fates_in lineup p a us ≡ fates_in lineup q b vs
  same_fates lineup p q a b us vs allowed allowed_too first second are too =
      let params = ok_injective p q (sym allowed ∙ allowed_too) in
      let plan = one_plan (seeded s lineup.seed) a b first second in
      let chosen = one_list {B = Option WarriorValue} (λ w. Some w) same_Some us vs (sym are ∙ too) in
      ap (λ p. fates_in lineup p a us) params ∙ ap (λ a. fates_in lineup q a us) plan ∙ ap (fates_in lineup q b) chosen

  one_fought : (lineup : MarsLineup) (xs ys : List Fate) → IsFought s ws lineup xs → IsFought s ws lineup ys → xs ≡ ys
  one_fought lineup xs ys (p, a, us, allowed, first, are, fits, is) (q, b, vs, allowed_too, second, too, fitting, too_is) =
      ok_injective xs ys (sym is ∙ same_fates lineup p q a b us vs allowed allowed_too first second are too ∙ too_is)

  all_fought : (lineups : List MarsLineup) (xs ys : List Fate) → AreFought s ws lineups xs → AreFought s ws lineups ys → xs ≡ ys
  all_fought [] xs ys first second = first ∙ sym second
  all_fought (lineup ∷ lineups) xs ys (a, rest, fought, more, is) (b, tail, too, others, too_is) =
      let here = one_fought lineup a b fought too in
      let there = all_fought lineups rest tail more others in
      is ∙ rw (here, there) refl ∙ sym too_is

pub equal_outcomes : EqualOutcomes
equal_outcomes s cells entrants lineups one other (p, vs, fates, allowed, are, fought, holds) (q, ws, others, too_allowed, too, fighting, held) =
    let same : p ≡ q = ok_injective p q (sym allowed ∙ too_allowed) in
    let warriors = one_reading q cells entrants vs ws [] (subst (λ p. AreEntrants p cells entrants vs) same are) too in
    let all = all_fought s ws lineups fates others (subst (λ ws. AreFought s ws lineups fates) warriors fought) fighting in
    holds ∙ ap (map plain_fate) all ∙ sym held
