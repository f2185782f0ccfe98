-- Looking up a label in the table finds the label of the program's lines. A `Source` holds a program and a table, and
-- its ghost field says that the table belongs to the program. So the value of a name is given by its definition, and
-- one lemma on look-ups is enough.
use Rattle.std.proofs.Common.{◌≡◌, ◌∙◌, ℕ, List, [], ◌∷◌, ◌++◌, ap, Option, None, Some, Bool, true, false, ◌||◌, cond, nat_eq, ◌==◌, is_some, refl, subst, arith}
use Rattle.std.proofs.lemmas.Bool.{eqb-true}
use Rattle.std.specs.List.{list_any}
use Rattle.std.specs.Map.{lookup}
use Rattle.redcode_asm.specs.Assembly.{Placed, label_among}
use Rattle.redcode_asm.specs.Code.Labels.{Table, table_with, with_label, with_labels}

-- A label that isn't in the table is appended.
pub with-new : (index : ℕ) (table : Table) (n : ℕ) → lookup (nat_eq n) table ≡ None → with_label index table n ≡ table ++ (n, index) ∷ []
with-new index table n none = ap (λ r. elim (is_some r) as (λ _. Table) [ true ↦ table | false ↦ table ++ (n, index) ∷ [] ]) none

-- The first of two results, if there is one, or else the second.
abbrev pub first_of : Option ℕ → Option ℕ → Option ℕ
first_of (Some i) other = Some i
first_of None other = other

-- The index of the label `n`, if `n` is among the labels `ns` of a line at `index`.
abbrev pub at_index : ℕ → ℕ → List ℕ → Option ℕ
at_index index n ns = elim (list_any (λ m. m == n) ns) [ true ↦ Some index | false ↦ None ]

first-none : (x : Option ℕ) → x ≡ first_of x None
first-none None = refl
first-none (Some i) = refl

first-assoc : (x y z : Option ℕ) → first_of (first_of x y) z ≡ first_of x (first_of y z)
first-assoc None y z = refl
first-assoc (Some i) y z = refl

-- The index, if the test `b` is true.
abbrev where_true : Bool → ℕ → Option ℕ
where_true b index = elim b [ true ↦ Some index | false ↦ None ]

one-by : (b c : Bool) (index : ℕ) → b ≡ c → cond b (Some index) None ≡ where_true (c || false) index
one-by true true index e = refl
one-by true false index e = cc
one-by false true index e = cc
one-by false false index e = refl

entry-by : (b : Bool) (i : ℕ) (x y z : Option ℕ) → x ≡ first_of y z → cond b (Some i) x ≡ first_of (cond b (Some i) y) z
entry-by true i x y z e = refl
entry-by false i x y z e = e

same-sides : (n m : ℕ) → nat_eq n m ≡ (m == n)
same-sides n m = grind arith

lookup-behind : (table : Table) (n m index : ℕ) → lookup (nat_eq n) (table ++ (m, index) ∷ []) ≡ first_of (lookup (nat_eq n) table) (at_index index n (m ∷ []))
lookup-behind [] n m index = one-by (nat_eq n m) (m == n) index (same-sides n m)
lookup-behind (e ∷ table) n m index = entry-by (nat_eq n e.0) e.1 (lookup (nat_eq n) (table ++ (m, index) ∷ [])) (lookup (nat_eq n) table) (at_index index n (m ∷ [])) (lookup-behind table n m index)

there-by : (b : Bool) (index v : ℕ) (table : Table) (n m : ℕ) → (m == n) ≡ b → lookup (nat_eq m) table ≡ Some v → lookup (nat_eq n) table ≡ first_of (lookup (nat_eq n) table) (where_true (b || false) index)
there-by true index v table n m same there = let at : lookup (nat_eq n) table ≡ Some v = subst (λ k. lookup (nat_eq k) table ≡ Some v) (eqb-true m n same) there in rw at refl
there-by false index v table n m same there = first-none (lookup (nat_eq n) table)

label-by : (r : Option ℕ) (index : ℕ) (table : Table) (n m : ℕ) → lookup (nat_eq m) table ≡ r → lookup (nat_eq n) (with_label index table m) ≡ first_of (lookup (nat_eq n) table) (at_index index n (m ∷ []))
label-by None index table n m e = ap (lookup (nat_eq n)) (with-new index table m e) ∙ lookup-behind table n m index
label-by (Some v) index table n m e =
    ap (λ r. lookup (nat_eq n) (elim (is_some r) as (λ _. Table) [ true ↦ table | false ↦ table ++ (m, index) ∷ [] ])) e ∙ there-by (m == n) index v table n m refl e

joined-by : (b c : Bool) (index : ℕ) → first_of (where_true (b || false) index) (where_true c index) ≡ where_true (b || c) index
joined-by true c index = refl
joined-by false c index = refl

lookup-labels : (index : ℕ) (table : Table) (n : ℕ) (ns : List ℕ) → lookup (nat_eq n) (with_labels index table ns) ≡ first_of (lookup (nat_eq n) table) (at_index index n ns)
lookup-labels index table n [] = first-none (lookup (nat_eq n) table)
lookup-labels index table n (m ∷ ns) =
    lookup-labels index (with_label index table m) n ns
    ∙ ap (λ x. first_of x (at_index index n ns)) (label-by (lookup (nat_eq m) table) index table n m refl)
    ∙ first-assoc (lookup (nat_eq n) table) (at_index index n (m ∷ [])) (at_index index n ns)
    ∙ ap (first_of (lookup (nat_eq n) table)) (joined-by (m == n) (list_any (λ m. m == n) ns) index)

among-by : (b : Bool) (index : ℕ) (x : Option ℕ) → first_of (where_true b index) x ≡ elim b as (λ _. Option ℕ) [ true ↦ Some index | false ↦ x ]
among-by true index x = refl
among-by false index x = refl

-- A look-up finds the first label among the labels of the old table and of the lines.
pub lookup-table : (table : Table) (n : ℕ) (ps : List Placed) → lookup (nat_eq n) (table_with table ps) ≡ first_of (lookup (nat_eq n) table) (label_among ps n)
lookup-table table n [] = first-none (lookup (nat_eq n) table)
lookup-table table n (p ∷ ps) =
    lookup-table (with_labels p.index table p.line.labels) n ps
    ∙ ap (λ x. first_of x (label_among ps n)) (lookup-labels p.index table n p.line.labels)
    ∙ first-assoc (lookup (nat_eq n) table) (at_index p.index n p.line.labels) (label_among ps n)
    ∙ ap (first_of (lookup (nat_eq n) table)) (among-by (list_any (λ m. m == n) p.line.labels) p.index (label_among ps n))
