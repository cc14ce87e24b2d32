-- In every run a vote is a negative vote exactly if the look back finds a cause, and names that cause.
use Rattle.std.proofs.Common.{if◌then◌else◌, ◌≡◌, ℕ, ◌<◌, ◌≤◌, ◌&&◌, max, Bool, true, false, List, [], ◌∷◌, ◌++◌, take, reverse, refl, sym, ap, subst, ◌∙◌, arith, Option, Some, None}
use Rattle.std.specs.Prelude.{nat_lt, slice_get}
use Rattle.std.specs.List.{AllByRecursion}
use Rattle.std.specs.Option.{option_or}
use Rattle.std.proofs.lemmas.Bool.{le-ltb}
use Rattle.std.proofs.lemmas.Bool.Decides.{nat_tests}
use Rattle.tv_base.specs.declared.numbers.ItemNo.{ItemNo}
use Rattle.tv_base.specs.declared.numbers.SubNo.{SubNo}
use Rattle.tv_base.specs.declared.numbers.TreeNo.{TreeNo}
use Rattle.tv_base.specs.declared.numbers.Version.{Version}
use Rattle.commute_ops.specs.declared.value.Value.{Value}
use Rattle.letter_types.specs.Causes.{short_cause}
use Rattle.letter_types.specs.declared.acts.Act.{Act}
use Rattle.letter_types.specs.declared.acts.Act.TheVariants as acts
use Rattle.letter_types.specs.declared.entries.Entry.{Entry}
use Rattle.letter_types.specs.declared.entries.Letter.{Letter}
use Rattle.letter_types.specs.declared.votes.Cause.{Cause}
use Rattle.letter_types.specs.declared.votes.Cause.TheVariants.{Newer}
use Rattle.item_versions.specs.Item.{Held, IsHeld}
use Rattle.item_versions.specs.Table.{Table, item_in}
use Rattle.item_versions.proofs.Holding.{IsHeld-item_in}
use Rattle.item_versions.proofs.Window.{AllUpTo}
use Rattle.nc_locks.specs.Locks.{met_in}
use Rattle.script_parts.specs.Wants.{wanted_by}
use Rattle.script_parts.specs.Deeds.{found_short, overwrites}
use Rattle.script_parts.specs.declared.parts.SubOp.{SubOp}
use Rattle.script_parts.specs.declared.parts.TreeKind.TheVariants.{Strict}
use Rattle.script_parts.specs.ScriptData.{ScriptData, ops_of}
use Rattle.script_parts.specs.Valid.{IsValid}
use Rattle.world_model.specs.Asked.{asked_ops, asked_version}
use Rattle.world_model.specs.Core.{Core}
use Rattle.world_model.specs.Named.{tree_kind_at}
use Rattle.world_model.specs.Notices.{act_of}
use Rattle.world_model.specs.Reads.{gets, seen_in}
use Rattle.world_model.specs.Runs.{IsStepRun, keeping_in, node_in}
use Rattle.world_model.specs.Strict.{notice_by}
use Rattle.world_model.specs.Votes.{cause_in, conflict_by, greatest_version, newer_by, newer_in, short_at, short_in, voted}
use Rattle.world_model.proofs.Bags.{one_if_both}
use Rattle.board_rules.specs.Histories.{Place, places_at, version_in, version_or}
use Rattle.board_rules.specs.Stands.{cause_of, conflict_of, newer_of, newest_of, short_of}
use Rattle.board_rules.specs.Worth.{worth}
use Rattle.board_rules.proofs.ItemAt.{op_row}
use Rattle.tree_laws.specs.Turns.{has_turn}
use Rattle.tree_laws.proofs.apt.AptBounds.{effect_bound, tables_keep}
use Rattle.tree_laws.proofs.decided.AptDecisions.{dated_here}
use Rattle.tree_laws.proofs.stages.AptStagesOwn.{Doing}
use Rattle.tree_laws.proofs.apt.AptVersions.{before}
use Rattle.tree_laws.proofs.apt.AptWindows.{tables_ascend}
use Rattle.tree_laws.proofs.histories.Histories.{at_each_act_more}
use Rattle.run_laws.proofs.items.HeldItems.{greatest_from}
use Rattle.run_laws.proofs.act_order.RowActs.{is_lasting, lasting}
use Rattle.run_laws.proofs.each_tree.EveryApt.{all_apt}
use Rattle.run_laws.proofs.births.Deeds.{conflict_front}
use Rattle.run_laws.proofs.act_order.Fronts.{act_of_place, front, one_by_one}
use Rattle.run_laws.proofs.act_order.Lasts.{Applies, AsksIn, Frees, Lasts, Reads, Updates, Votes, cause_there, lasts}
use Rattle.run_laws.proofs.act_order.Turns.{born_before, is_there}
use Rattle.run_laws.proofs.items.UpTo.{IsUpTo}
use Rattle.run_laws.proofs.items.Writes.{IsItem, asked_born}
use Rattle.run_laws.proofs.strict.YesVotes.{asked_same, front_version, held_up, newest_most, there_held}
use Rattle.run_laws.specs.Causes.{NamesItsCause, VotesNameTheirCauses}
use Rattle.run_laws.proofs.births.Asking.{asked_low, low_update}
use Rattle.run_laws.proofs.items.HeldNewest.{held_to_bound}
use Rattle.run_laws.proofs.items.MostHeld.{greatest_most}
use Rattle.run_laws.proofs.items.NewestOf.{newest_grows}
use Rattle.run_laws.proofs.worth.RightReads.{each_op}
use Rattle.run_laws.proofs.strict.VoteSees.{conflict_met, vote_seen}

-- What is newer: the greatest version that is held is the greatest in which the item was written, if it is above the vote's.
newer_number : (x : ItemNo) (v low g n : ℕ) (test : Bool) → nat_lt v g ≡ test → n ≤ g → g ≤ max low n → low ≤ v
    → (if nat_lt v g then Some (Newer x (record { 0 = g })) else None) ≡ (if nat_lt v n then Some (Newer x (record { 0 = n })) else None)
newer_number x v low g n true is le most above =
    let lt : v < g = grind (arith, nat_tests, is) in
    let same : g ≡ n = omega (arith, lt, le, most, above) in
    ap (λ (i : ℕ). if nat_lt v i then Some (Newer x (record { 0 = i })) else None) same
newer_number x v low g n false is le most above =
    let at : g ≤ v = grind (arith, nat_tests, is) in
    let other : nat_lt v n ≡ false = le-ltb v n (omega (arith, at, le)) in
    ap (λ (b : Bool). if b then Some (Newer x (record { 0 = g })) else None) is
    ∙ sym (ap (λ (b : Bool). if b then Some (Newer x (record { 0 = n })) else None) other)

newer_held : (s : ScriptData) (past : List Entry) (e : Entry) (j p : ℕ) (x : ItemNo) (v : Version) → IsValid s → IsStepRun s (e ∷ past)
    → p < s.nodes → IsItem s p x → (node_in s past p).turns.low.0 ≤ v.0 → lasting (take j e.acts) ≡ []
    → newer_by x v (item_in x (node_in s past p).items)
    ≡ (if nat_lt v.0 (newest_of s (front past e j) p x.0) then Some (Newer x (record { 0 = newest_of s (front past e j) p x.0 })) else None)
newer_held s past e j p x v valid run lt i low none =
    let apt = all_apt s past valid run.1 in
    let items : Table = (node_in s past p).items in
    let found = there_held i.row.kind (effect_bound s past x.0) (item_in x items) (tables_keep s past valid apt run.1 p lt x.0 i.row i.there i.node) in
    let h : Held = found.0 in
    let held : IsHeld h = IsHeld-item_in x items h found.1 (tables_ascend s past p valid apt run.1 lt) in
    let g : ℕ = greatest_version h in
    let n : ℕ = newest_of s (front past e j) p x.0 in
    let all : AllUpTo g h = (greatest_from 0 g h (omega arith)).1 in
    let le : n ≤ g =
    newest_most s past e j p g x valid run lt i (subst (IsUpTo g) (sym found.1) (held_up g h held all)) none in
    let old : ℕ = newest_of s (before past) p x.0 in
    let m : ℕ = max (node_in s past p).turns.low.0 old in
    let most : g ≤ m = greatest_most 0 m h (omega arith) (held_to_bound s past p x valid run.1 lt h found.1) in
    let grows : old ≤ n = newest_grows s (before past) (take j (places_at e)) p x.0 in
    ap (newer_by x v) found.1
    ∙ newer_number x v.0 (node_in s past p).turns.low.0 g n (nat_lt v.0 g) refl le (omega (arith, most, grows)) low

first_newer : (over test : Bool) (c : Cause) (r : Option Cause)
    → option_or (if over then (if test then Some c else None) else None) r ≡ (if over && test then Some c else r)
first_newer true true c r = refl
first_newer true false c r = refl
first_newer false test c r = refl

newer_same : (s : ScriptData) (past : List Entry) (e : Entry) (j p : ℕ) (v : Version) (os : List SubOp) → IsValid s → IsStepRun s (e ∷ past)
    → p < s.nodes → (node_in s past p).turns.low.0 ≤ v.0 → lasting (take j e.acts) ≡ []
    → AllByRecursion (λ (o : SubOp). IsItem s p o.item) os
    → newer_in v os (node_in s past p).items ≡ newer_of s (front past e j) p v.0 os
newer_same s past e j p v [] valid run lt low none all = refl
newer_same s past e j p v (o ∷ os) valid run lt low none all =
    let n : ℕ = newest_of s (front past e j) p o.item.0 in
    ap (λ (c : Option Cause). option_or (if overwrites o.deed then c else None) (newer_in v os (node_in s past p).items))
    (newer_held s past e j p o.item v valid run lt all.0 low none)
    ∙ ap (option_or (if overwrites o.deed then (if nat_lt v.0 n then Some (Newer o.item (record { 0 = n })) else None) else None))
    (newer_same s past e j p v os valid run lt low none all.1)
    ∙ first_newer (overwrites o.deed) (nat_lt v.0 n) (Newer o.item (record { 0 = n })) (newer_of s (front past e j) p v.0 os)

-- What is short, where the node sees what the items are worth.
short_same : (s : ScriptData) (h : List Entry) (v : Version) (os : List SubOp) (items : Table)
    → AllByRecursion (λ (o : SubOp). seen_in v o.item items ≡ Some (worth s h o.item.0 v.0)) os → short_in v os items ≡ short_of s h v.0 os
short_same s h v [] items all = refl
short_same s h v (o ∷ os) items all =
    let one : short_at v o items ≡ short_cause o.item (found_short o.deed (worth s h o.item.0 v.0)) =
    ap (λ (w : Option Value). elim w [ None ↦ None | Some u ↦ short_cause o.item (found_short o.deed u) ]) all.0 in
    ap (λ (c : Option Cause). option_or c (short_in v os items)) one
    ∙ ap (option_or (short_cause o.item (found_short o.deed (worth s h o.item.0 v.0)))) (short_same s h v os items all.1)

-- The first of them.
first_cause : (c d n m a b : Option Cause) → c ≡ d → n ≡ m → (d ≡ None → a ≡ b) → option_or c (option_or n a) ≡ option_or d (option_or m b)
first_cause c None n m a b one two rest =
    ap (λ (o : Option Cause). option_or o (option_or n a)) one
    ∙ ap (λ (o : Option Cause). option_or o a) two ∙ ap (option_or m) (rest refl)
first_cause c (Some d) n m a b one two rest = ap (λ (o : Option Cause). option_or o (option_or n a)) one

cause_found : (s : ScriptData) (past : List Entry) (e : Entry) (j p : ℕ) (a : Act) (r : Letter) (t : TreeNo) (k : SubNo) → Doing s past e p r
    → AsksIn r.body t k → tree_kind_at s t.0 ≡ Some Strict → slice_get e.acts j ≡ Some a → is_lasting a ≡ true → has_turn t.0 k.0 a ≡ 1
    → lasting (take j e.acts) ≡ []
    → cause_there s (keeping_in s past p).core t r.body ≡ cause_of s (reverse past) (front past e j) e.actor.0 t.0 (ops_of s t.0 k.0)
cause_found s past e j p a r t k g asks of at so one none =
    let c : Core = (keeping_in s past p).core in
    let v : Version = asked_version c.node.turns.update r.body in
    let os : List SubOp = ops_of s t.0 k.0 in
    let xs : List Place = front past e j in
    let there = is_there s past e p r t k g asks in
    let met = conflict_met s past e p r t k g asks of in
    let first = conflict_front s past e j p t.0 os none in
    let low = asked_low s past e p r t k c.node.turns.update g asks (low_update s past p g.valid g.run.1 g.does.brings.below) in
    let items = each_op (λ (o : SubOp). IsItem s p o.item) os
    (λ i o is.
    let row = op_row s t.0 k.0 i o g.valid is in
    record { row = row.row; there = row.there; node = sym row.node ∙ there.node }) in
    let version : version_in t.0 xs ≡ Some v =
    front_version past e j t.0 v (born_before s past e j a p r t k Strict g asks of at so)
    (asked_born s (before past ++ places_at e) t k Strict r.body c asks of refl (dated_here s past e p r g.valid g.apt.1 g.run g.does)) in
    ap (cause_in c.locks c.node.items t v) (asked_same s t k r.body asks)
    ∙ first_cause (conflict_by (met_in t (wanted_by os) c.locks)) (conflict_of s xs p t.0 os) (newer_in v os c.node.items) (newer_of s xs p v.0 os)
    (short_in v os c.node.items) (short_of s (reverse past) v.0 os) (met ∙ sym first)
    (newer_same s past e j p v os g.valid g.run g.does.brings.below low none items)
    (λ free.
    short_same s (reverse past) v os c.node.items
    (each_op (λ (o : SubOp). seen_in v o.item c.node.items ≡ Some (worth s (reverse past) o.item.0 v.0)) os
    (λ i o is. vote_seen s past e j p i a r t k o g asks of at one (sym first ∙ free) is)))
    ∙ ap (λ (n : ℕ). option_or (conflict_of s xs p t.0 os) (option_or (newer_of s xs p n os) (short_of s (reverse past) n os)))
    (sym (ap (version_or 0) version))
    ∙ ap (λ (q : ℕ). cause_of s (reverse past) xs q t.0 os) (sym g.does.brings.at)

-- So each vote names its cause.
abbrev NamesHere : ScriptData → List Entry → Entry → ℕ → Act → Type 0
NamesHere s past e j a = NamesItsCause s (reverse past) (front past e j) e.actor.0 a

voted_names : (s : ScriptData) (past : List Entry) (e : Entry) (j : ℕ) (a : Act) (t : TreeNo) (k : SubNo) (o : Option Cause)
    (values : List (ItemNo × Value)) → o ≡ cause_of s (reverse past) (front past e j) e.actor.0 t.0 (ops_of s t.0 k.0)
    → a ≡ act_of t k (notice_by (voted o values)) → NamesHere s past e j a
voted_names s past e j a t k None values is so = subst (NamesHere s past e j) (sym so) is
voted_names s past e j a t k (Some cause) values is so = subst (NamesHere s past e j) (sym so) is

vote_lasts : (t : TreeNo) (k : SubNo) (o : Option Cause) (values : List (ItemNo × Value))
    → (is_lasting (act_of t k (notice_by (voted o values))) ≡ true) × (has_turn t.0 k.0 (act_of t k (notice_by (voted o values))) ≡ 1)
vote_lasts t k None values = (refl, one_if_both t.0 k.0)
vote_lasts t k (Some cause) values = (refl, one_if_both t.0 k.0)

lasting_names : (s : ScriptData) (past : List Entry) (e : Entry) (j : ℕ) (a : Act) → slice_get e.acts j ≡ Some a → Lasts s past e j a
    → NamesHere s past e j a
lasting_names s past e j a at (Updates p r t k g asks of is none) = subst (NamesHere s past e j) (sym is) tt
lasting_names s past e j a at (Reads p r t k values g asks of is none) = subst (NamesHere s past e j) (sym is) tt
lasting_names s past e j a at (Votes p r t k g asks of is none) =
    let c : Core = (keeping_in s past p).core in
    let o : Option Cause = cause_there s c t r.body in
    let values : List (ItemNo × Value) = gets (asked_version c.node.turns.update r.body) (asked_ops s r.body) c.node.items in
    let so = vote_lasts t k o values in
    voted_names s past e j a t k o values
    (cause_found s past e j p a r t k g asks of at (ap is_lasting is ∙ so.0) (ap (has_turn t.0 k.0) is ∙ so.1) none) is
lasting_names s past e j a at (Applies p r t v commit g is so none) = subst (NamesHere s past e j) (sym so) tt
lasting_names s past e j a at (Frees p r t g is so none) = subst (NamesHere s past e j) (sym so) tt

other_names : (s : ScriptData) (past : List Entry) (e : Entry) (j : ℕ) (a : Act) → is_lasting a ≡ false → NamesHere s past e j a
other_names s past e j (acts.Voted t k vote) brief = absurd (cc brief)
other_names s past e j acts.Finished brief = tt
other_names s past e j _ brief = tt

act_names : (s : ScriptData) (past : List Entry) (e : Entry) (j : ℕ) (a : Act) → IsValid s → IsStepRun s (e ∷ past) → slice_get e.acts j ≡ Some a
    → (test : Bool) → is_lasting a ≡ test → NamesHere s past e j a
act_names s past e j a valid run at true is = lasting_names s past e j a at (lasts s past e j a valid run at is)
act_names s past e j a valid run at false is = other_names s past e j a is

place_names : (s : ScriptData) (past : List Entry) (e : Entry) (j : ℕ) (y : Place) → IsValid s → IsStepRun s (e ∷ past)
    → slice_get (places_at e) j ≡ Some y → NamesItsCause s (reverse past) (front past e j) y.node y.act
place_names s past e j y valid run is =
    let there = act_of_place e j y is in
    subst (λ (n : ℕ). NamesItsCause s (reverse past) (front past e j) n y.act) (sym there.1)
    (act_names s past e j y.act valid run there.0 (is_lasting y.act) refl)

pub names_causes : (s : ScriptData) (past : List Entry) → IsValid s → IsStepRun s past → VotesNameTheirCauses s (reverse past)
names_causes s [] valid run = λ n e here. absurd (cc here)
names_causes s (e ∷ past) valid run =
    at_each_act_more (λ (b : List Entry) (xs : List Place) (y : Place). NamesItsCause s b xs y.node y.act) e past (names_causes s past valid run.1)
    (one_by_one (λ (xs : List Place) (y : Place). NamesItsCause s (reverse past) xs y.node y.act) (before past) (places_at e)
    (λ j y is. place_names s past e j y valid run is))
