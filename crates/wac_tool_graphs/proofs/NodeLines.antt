-- The lines of the nodes of a graph.
use Rattle.std.proofs.Common.{◌≡◌, ◌∙◌, ◌<◌, ℕ, zero, suc, List, [], ◌∷◌, ◌++◌, Option, Some, None, refl, sym, ap, subst, map, length, append_assoc, codes, flat_map, arith, ◌+◌, Result, Err}
use Rattle.std.specs.Prelude.{slice_get, option_map, decimal}
use Rattle.wac_graph_types.specs.declared.kind.ItemKind.{ItemKind}
use Rattle.wac_graph_types.specs.Shape.{described}
use Rattle.wac_graph_types.specs.Words as words
use Rattle.wac_graph_types.proofs.Shapes.{word_is}
use Rattle.wac_graph.specs.Node.{Node as GraphNode, arguments_in}
use Rattle.wac_graph.specs.Graph.{Parts}
use Rattle.wac_graph.specs.Means.{means, entry_means}
use Rattle.wac_graph.specs.Numbers.{numbers}
use Rattle.wac_graph.specs.Origin.{Numbering}
use Rattle.wac_resolution_state.specs.Nodes.{form_in, node_of}
use Rattle.wac_tool_graphs.specs.Lines.{form_words, id_words, node_line, node_lines, argument_lines}
use Rattle.wac_tool_graphs.specs.Puts.{Began, Puts}
use Rattle.wac_tool_graphs.specs.declared.lines.OutputFailed.{OutputFailed}
use Rattle.wac_tool_graphs.proofs.Putting.{began_after, puts_after, fails_first}

-- ---- nodes by number

-- the lines of the node of a number
abbrev pub lines_at : Numbering → Parts → ℕ → List ℕ
lines_at numbering g i = elim (slice_get g.nodes i) [ None ↦ [] | Some n ↦ node_line i (node_of numbering g n) ++ argument_lines (arguments_in n.form) ]

there_is : (xs : List GraphNode) (i : ℕ) → i < length xs → slice_get xs i ≡ None → ⊥
there_is [] i h is = absurd (omega (arith, h))
there_is (x ∷ xs) zero h is = absurd (cc)
there_is (x ∷ xs) (suc i) h is = there_is xs i (omega (arith, h)) is

-- what holds of the lines of each node that has this number holds of these lines
pub at_lines : (numbering : Numbering) (g : Parts) (i : ℕ) (P : List ℕ → Type 0) → i < length g.nodes → ((n : GraphNode) → slice_get g.nodes i ≡ Some n → P (node_line i (node_of numbering g n) ++ argument_lines (arguments_in n.form))) → P (lines_at numbering g i)
at_lines numbering g i P h all = go (slice_get g.nodes i) refl
  where
    go : (o : Option GraphNode) → slice_get g.nodes i ≡ o → P (elim o as (λ _. List ℕ) [ None ↦ [] | Some n ↦ node_line i (node_of numbering g n) ++ argument_lines (arguments_in n.form) ])
    go None is = absurd (there_is g.nodes i h is)
    go (Some n) is = all n is

get_after : (front back : List GraphNode) (n : GraphNode) → slice_get (front ++ n ∷ back) (length front) ≡ Some n
get_after [] back n = refl
get_after (x ∷ front) back n = get_after front back n

length-push : {X : Type 0} (xs : List X) (x : X) → length (xs ++ x ∷ []) ≡ suc (length xs)
length-push [] x = refl
length-push (y ∷ xs) x = ap suc (length-push xs x)

-- the nodes after some
from : (numbering : Numbering) (g : Parts) (front back : List GraphNode) → g.nodes ≡ front ++ back → flat_map (lines_at numbering g) (numbers (length front) (length back)) ≡ node_lines (length front) (map (node_of numbering g) back)
from numbering g front [] is = refl
from numbering g front (n ∷ back) is =
    let here : slice_get g.nodes (length front) ≡ Some n = ap (λ (ns : List GraphNode). slice_get ns (length front)) is ∙ get_after front back n in
    let line = node_line (length front) (node_of numbering g n) in
    let arguments = argument_lines (arguments_in n.form) in
    let first : lines_at numbering g (length front) ≡ line ++ arguments =
    ap (λ (o : Option GraphNode). elim o as (λ _. List ℕ) [ None ↦ [] | Some n ↦ node_line (length front) (node_of numbering g n) ++ argument_lines (arguments_in n.form) ]) here in
    let more : g.nodes ≡ (front ++ n ∷ []) ++ back = is ∙ sym (append_assoc front (n ∷ []) back) in
    let later : flat_map (lines_at numbering g) (numbers (suc (length front)) (length back)) ≡ node_lines (suc (length front)) (map (node_of numbering g) back) =
    subst (λ (k : ℕ). flat_map (lines_at numbering g) (numbers k (length back)) ≡ node_lines k (map (node_of numbering g) back)) (length-push front n) (from numbering g (front ++ n ∷ []) back more) in
    ap (λ x. x ++ flat_map (lines_at numbering g) (numbers (suc (length front)) (length back))) first
    ∙ append_assoc line arguments (flat_map (lines_at numbering g) (numbers (suc (length front)) (length back)))
    ∙ ap (λ x. line ++ (arguments ++ x)) later

-- the lines of the nodes are those of their numbers
pub lines_by_number : (numbering : Numbering) (g : Parts) → flat_map (lines_at numbering g) (numbers 0 (length g.nodes)) ≡ node_lines 0 (map (node_of numbering g) g.nodes)
lines_by_number numbering g = from numbering g [] g.nodes refl

-- ---- the parts of a node's line

-- N FORM
abbrev pub form_part : Parts → ℕ → GraphNode → List ℕ
form_part g i n = decimal i ++ (codes " " ++ form_words (form_in g.packages n.form))

-- : KIND [ID]
abbrev pub kind_part : Numbering → Parts → GraphNode → List ℕ
kind_part numbering g n = codes ": " ++ (described (means numbering g n.kind) ++ (id_words n.name ++ codes "\n"))

both_parts : (numbering : Numbering) (g : Parts) (i : ℕ) (n : GraphNode) → form_part g i n ++ kind_part numbering g n ≡ node_line i (node_of numbering g n)
both_parts numbering g i n =
    append_assoc (decimal i) (codes " " ++ form_words (form_in g.packages n.form)) (kind_part numbering g n)
    ∙ ap (λ x. decimal i ++ x) (append_assoc (codes " ") (form_words (form_in g.packages n.form)) (kind_part numbering g n))

-- the same, by what is read of the kind and of the name
pub kind_is : (numbering : Numbering) (g : Parts) (i : ℕ) (n : GraphNode) (k : ItemKind) (word : List ℕ) (name : Option (List ℕ)) → slice_get g.nodes i ≡ Some n
    → option_map (λ x. x.kind) (slice_get g.nodes i) ≡ Some k → word ≡ words.described k → option_map (λ x. x.name) (slice_get g.nodes i) ≡ Some name
    → codes ": " ++ (word ++ (id_words name ++ codes "\n")) ≡ kind_part numbering g n
kind_is numbering g i n k word name at kind described_so named =
    let same_kind : Some n.kind ≡ Some k = sym (ap (option_map (λ (x : GraphNode). x.kind)) at) ∙ kind in
    let same_name : Some n.name ≡ Some name = sym (ap (option_map (λ (x : GraphNode). x.name)) at) ∙ named in
    let k_is : k ≡ n.kind = cc in
    let name_is : name ≡ n.name = cc in
    let word_of : word ≡ described (means numbering g n.kind) = described_so ∙ ap words.described k_is ∙ sym (word_is (entry_means numbering g) n.kind) in
    ap (λ x. codes ": " ++ (x ++ (id_words name ++ codes "\n"))) word_of ∙ ap (λ o. codes ": " ++ (described (means numbering g n.kind) ++ (id_words o ++ codes "\n"))) name_is

-- ---- a node's line and its arguments, as far as they were put

abbrev Node_puts : Numbering → Parts → ℕ → GraphNode → Result (Unit {0}) OutputFailed → List ℕ → ℕ → List ℕ → ℕ → Type 0
Node_puts numbering g i n r old f new k = Puts r old f new k (node_line i (node_of numbering g n) ++ argument_lines (arguments_in n.form))

pub fails_in_form : (numbering : Numbering) (g : Parts) (i : ℕ) (n : GraphNode) (r : Result (Unit {0}) OutputFailed) (e : OutputFailed) (old new : List ℕ) (f k : ℕ)
    → r ≡ Err e → Began old new (form_part g i n) → k ≡ f + 1 → Node_puts numbering g i n r old f new k
fails_in_form numbering g i n r e old new f k failed b one =
    let arguments = argument_lines (arguments_in n.form) in
    subst (Puts r old f new k) (sym (append_assoc (form_part g i n) (kind_part numbering g n) arguments) ∙ ap (λ x. x ++ arguments) (both_parts numbering g i n))
    (fails_first r e old new (form_part g i n) (kind_part numbering g n ++ arguments) f k failed b one)

pub fails_in_kind : (numbering : Numbering) (g : Parts) (i : ℕ) (n : GraphNode) (r : Result (Unit {0}) OutputFailed) (e : OutputFailed) (old mid new : List ℕ) (f h k : ℕ)
    → r ≡ Err e → (mid ≡ old ++ form_part g i n) × (h ≡ f) → Began mid new (kind_part numbering g n) × (k ≡ h + 1) → Node_puts numbering g i n r old f new k
fails_in_kind numbering g i n r e old mid new f h k failed put b =
    let arguments = argument_lines (arguments_in n.form) in
    subst (Puts r old f new k) (ap (λ x. x ++ arguments) (both_parts numbering g i n))
    (fails_first r e old new (form_part g i n ++ kind_part numbering g n) arguments f k failed (began_after old mid new (form_part g i n) (kind_part numbering g n) put.0 b.0) (b.1 ∙ ap (λ m. m + 1) put.1))

pub ends_node : (numbering : Numbering) (g : Parts) (i : ℕ) (n : GraphNode) (r : Result (Unit {0}) OutputFailed) (old mid next new : List ℕ) (f h l k : ℕ)
    → (mid ≡ old ++ form_part g i n) × (h ≡ f) → (next ≡ mid ++ kind_part numbering g n) × (l ≡ h) → Puts r next l new k (argument_lines (arguments_in n.form)) → Node_puts numbering g i n r old f new k
ends_node numbering g i n r old mid next new f h l k put then_put p =
    let line : next ≡ old ++ node_line i (node_of numbering g n) =
    then_put.0 ∙ ap (λ x. x ++ kind_part numbering g n) put.0 ∙ append_assoc old (form_part g i n) (kind_part numbering g n) ∙ ap (λ x. old ++ x) (both_parts numbering g i n) in
    puts_after r old next new (node_line i (node_of numbering g n)) (argument_lines (arguments_in n.form)) f l k line (then_put.1 ∙ put.1) p
