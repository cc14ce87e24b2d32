-- In every run what nodes gather, messages carry and actors do is of the script.
use Rattle.std.proofs.Common.{ℕ, ◌≡◌, ◌≢◌, ◌⊎◌, inl, inr, ◌<◌, ◌+◌, Bool, true, false, List, [], ◌∷◌, refl, sym, subst, ◌∙◌, arith, Option, Some, None}
use Rattle.std.specs.Prelude.{if◌then◌else◌, drop, length, nat_lt, reverse, take}
use Rattle.std.specs.List.{AllByRecursion}
use Rattle.std.specs.Option.{IfSome}
use Rattle.std.proofs.lemmas.Bool.{cases_eq}
use Rattle.tv_base.specs.declared.numbers.SubNo.{SubNo}
use Rattle.tv_base.specs.declared.numbers.TreeNo.{TreeNo}
use Rattle.tv_base.specs.declared.numbers.Version.{Version}
use Rattle.letter_types.specs.Kept.{kept_without, wakes}
use Rattle.letter_types.specs.Steps.{Out, still}
use Rattle.letter_types.specs.declared.acts.Act.{Act}
use Rattle.letter_types.specs.declared.acts.Act.TheVariants as acts
use Rattle.letter_types.specs.declared.bodies.Body.{Body}
use Rattle.letter_types.specs.declared.bodies.Body.TheVariants.{Go, Root, Sub as SubLetter, Done, Reply, Advanced, Decide, Release, Wake, Ask}
use Rattle.letter_types.specs.declared.entries.Entry.{Entry}
use Rattle.letter_types.specs.declared.entries.Letter.{Letter}
use Rattle.letter_types.specs.declared.entries.LetterId.{LetterId}
use Rattle.letter_types.specs.declared.entries.Outgoing.{Outgoing}
use Rattle.letter_types.specs.declared.kept.KeptLetter.{KeptLetter}
use Rattle.letter_types.specs.declared.kept.KeepReason.{KeepReason}
use Rattle.nc_locks.specs.declared.modes.Met.{Met}
use Rattle.script_parts.specs.Counts.{has_strict}
use Rattle.script_parts.specs.ScriptData.{ScriptData, node_of, ops_of, updates}
use Rattle.script_parts.specs.Valid.{IsOp, IsValid}
use Rattle.script_parts.specs.declared.parts.ScriptRow.{ScriptRow}
use Rattle.script_parts.specs.declared.parts.TreeKind.{TreeKind}
use Rattle.script_parts.specs.declared.parts.TreeKind.TheVariants.{Update, Read, Strict}
use Rattle.script_parts.proofs.SubsOf.{has_root}
use Rattle.board_rules.proofs.Wholes.{updates_there}
use Rattle.board_rules.specs.Histories.{places_of}
use Rattle.world_model.specs.AllApt.{AllApt}
use Rattle.world_model.specs.Client.{Client, advances_sent, client_finishes, client_row, next_after, nudge, rows_letters, submit, submitted, with_answer, with_end}
use Rattle.world_model.specs.Core.{Core}
use Rattle.world_model.specs.Counts.{Each}
use Rattle.world_model.specs.Keeping.{KeepingNode, woken_by}
use Rattle.world_model.specs.Kept.{kept_in, outstanding}
use Rattle.world_model.specs.Named.{is_strict_at, tree_kind_at}
use Rattle.world_model.specs.Runs.{IsStepRun, client_in, keeping_in}
use Rattle.world_model.specs.Strict.{CoreKeeping, core_keeping, is_born_now, kept_by_kind, meets, parked_if, root_waiting}
use Rattle.world_model.specs.Votes.{conflict_by}
use Rattle.world_model.proofs.Cases.{Case, Coordinates, Does, Keeps, NodeDoes, NodeKeeps, Submits, case}
use Rattle.world_model.proofs.Coordination.{IsCoordinated, coordinated_each}
use Rattle.world_model.proofs.EachOutstanding.{each_first, each_outstanding}
use Rattle.world_model.proofs.Every.{each_append, each_map}
use Rattle.world_model.proofs.Keepings.{of_kept}
use Rattle.world_model.proofs.Outstanding.{keeping_elsewhere}
use Rattle.world_model.proofs.Plain.{no_strict}
use Rattle.world_model.proofs.Scripts.{SubAt, sub_there, tree_below}
use Rattle.world_model.proofs.Sends.{asked_each, rows_each}
use Rattle.world_model.specs.Meant.{IsMeant}
use Rattle.tree_laws.proofs.conflicts.AtHome.{all_append}
use Rattle.tree_laws.proofs.kept.DoneOrParked.{meets_way}
use Rattle.world_model.proofs.MeantRows.{strict_below}
use Rattle.tree_laws.proofs.kept.Parkings.{kind_updates_by}
use Rattle.advance_laws.proofs.governed.Brought.{brought_meant, each_of_brought}
use Rattle.advance_laws.proofs.phases.Progress.{brings_to}
use Rattle.tree_laws.proofs.loads.NodeLoads.{kind_here, ops_fit_kind}
use Rattle.run_laws.proofs.keeping.AtOnce.{no_votes}
use Rattle.history_text.specs.Printable.{IsSubOf}
use Rattle.audit_laws.specs.OfScript.{IsActOf}
use Rattle.audit_laws.proofs.Bounded.{bounded_items}
use Rattle.audit_laws.proofs.Items.{small_items_at, small_ops}
use Rattle.audit_laws.proofs.Looks.{AreOfItems, MayCause, cause_named, conflict_cause, met_cause}
use Rattle.audit_laws.proofs.Stepping.{AreCarried, Asks, Carries, Gathers, Needs, core_steps, there_of, turned_made}

-- of letters that have still to be done: Go wasn't sent
abbrev IsCarried : ScriptData → Letter → Type 0
IsCarried s l = (l.body ≡ Go) ⊎ Carries s l.body

-- A run so far, and what is known of it.
pub record AllCarried (s : ScriptData) (past : List Entry) : Type 0 where
  pub cores : (p : ℕ) → p < s.nodes → Gathers s (keeping_in s past p).core
  pub letters : Each (IsCarried s) (outstanding s past)

record Runs (s : ScriptData) (past : List Entry) (p : ℕ) : Type 0 where
  valid : IsValid s
  apt : AllApt s past
  run : IsStepRun s past
  below : p < s.nodes
  gathers : Gathers s (keeping_in s past p).core

-- Where a node is asked for a subtransaction.
some_strict : (s : ScriptData) (t : ℕ) (b : Bool) → has_strict s ≡ b → tree_kind_at s t ≡ Some Strict → has_strict s ≡ true
some_strict s t true is kind = is
some_strict s t false is kind =
    let strict : is_strict_at s t ≡ true = rw (kind, is_strict_at) refl in
    let none : true ≡ false = sym strict ∙ no_strict s t is in
    absurd (cc none)

asked : (s : ScriptData) (past : List Entry) (p : ℕ) (t : TreeNo) (k : SubNo) → Runs s past p → SubAt s t.0 k.0 → node_of s t.0 k.0 ≡ p
    → Asks s p (keeping_in s past p).core t k
asked s past p t k g sub node =
    let c : Core = (keeping_in s past p).core in
    let items : AreOfItems s p c.node.items =
    record { bounded = bounded_items s past p g.valid g.apt g.run g.below; small = g.gathers.small } in
    let fits : (kind : TreeKind) → tree_kind_at s t.0 ≡ Some kind → AllByRecursion (IsOp s.items kind p) (ops_of s t.0 k.0) =
    λ kind is.
    subst (λ (q : ℕ). AllByRecursion (IsOp s.items kind q) (ops_of s t.0 k.0)) node
    (ops_fit_kind s t.0 k.0 kind sub g.valid (kind_here s t.0 k.0 kind sub is)) in
    record {
      sub = sub;
      items = items;
      amounts = small_ops s t.0 k.0 g.valid;
      fits = fits;
      cause = λ v is.
          cause_named s past Strict p t v (ops_of s t.0 k.0) c.node.items items (fits Strict is)
          (met_cause s past Strict p t k (some_strict s t.0 (has_strict s) refl is) g.valid g.run g.below node (fits Strict is));
    }

-- What is known of the letter that is brought.
needed : (s : ScriptData) (past : List Entry) (p from : ℕ) (body : Body) → Runs s past p → IsMeant s from p body
    → (body ≡ Go) ⊎ Carries s body → Needs s p (keeping_in s past p).core body
needed s past p from (Root t) g meant carried =
    asked s past p t (record { 0 = 0 }) g (sub_there s t.0 0 meant.tree (has_root s t.0 g.valid meant.tree)) (sym meant.home)
needed s past p from (SubLetter t k v) g meant carried =
    asked s past p t k g (sub_there s t.0 k.0 meant.tree meant.sub) (sym meant.node)
needed s past p from (Done t k v notice) g meant (inl is) = absurd (cc is)
needed s past p from (Done t k v notice) g meant (inr of) = (meant.tree, of)
needed s past p from (Decide t v commit) g meant carried = (strict_below s t.0 meant.strict, g.valid)
needed s past p from (Release t) g meant carried = updates_there s t.0 meant.update
needed s past p from _ g meant carried = tt

-- The acts of keeping a letter.
abbrev ActsOf : ScriptData → CoreKeeping → Type 0
ActsOf s k = AllByRecursion (IsActOf s) k.acts

parked_acts : (s : ScriptData) (t : TreeNo) (k : SubNo) (raises : Bool) (v : Version) (found : Option Met) (c : Core) → IsSubOf s t.0 k.0
    → MayCause s (conflict_by found) → IfSome (parked_if t k raises v found c) (ActsOf s)
parked_acts s t k raises v None c sub met = tt
parked_acts s t k raises v (Some m) c sub met =
    all_append (IsActOf s) _ (acts.Parked t k m.item m.holder ∷ []) (turned_made s raises v.0) ((sub, met.0, met.1), tt)

met_way : (s : ScriptData) (past : List Entry) (p : ℕ) (t : TreeNo) (k : SubNo) → Runs s past p → Asks s p (keeping_in s past p).core t k
    → node_of s t.0 k.0 ≡ p → tree_kind_at s t.0 ≡ Some Update
    → MayCause s (conflict_by (meets s t (ops_of s t.0 k.0) (keeping_in s past p).core))
met_way s past p t k g asks node is =
    let up : updates s t.0 ≡ true = kind_updates_by s t.0 (Some Update) is in
    let way = meets_way s past p t k g.valid g.run g.below node up (λ plain. no_votes s past plain g.valid g.run) in
    subst (MayCause s) (sym way) (conflict_cause s (places_of (reverse past)) Update p t.0 (ops_of s t.0 k.0) (asks.fits Update is))

root_acts : (s : ScriptData) (past : List Entry) (p : ℕ) (t : TreeNo) (kind : Option TreeKind) → Runs s past p
    → Asks s p (keeping_in s past p).core t (record { 0 = 0 }) → node_of s t.0 0 ≡ p → tree_kind_at s t.0 ≡ kind
    → IfSome (kept_by_kind s (keeping_in s past p).core t (Root t) kind) (ActsOf s)
root_acts s past p t (Some Update) g asks node is =
    let c : Core = (keeping_in s past p).core in
    let k : SubNo = record { 0 = 0 } in
    parked_acts s t k false c.node.turns.update (meets s t (ops_of s t.0 0) c) c (there_of s t.0 0 asks.sub)
    (met_way s past p t k g asks node is)
root_acts s past p t (Some Strict) g asks node is = by (is_born_now (keeping_in s past p).core.node) where
  by : (b : Bool) → IfSome (if b then None else Some (root_waiting t (keeping_in s past p).core)) (ActsOf s)
  by true = tt
  by false = (tree_below s t.0 0 asks.sub, tt)
root_acts s past p t (Some Read) g asks node is = tt
root_acts s past p t None g asks node is = tt

sub_acts : (s : ScriptData) (past : List Entry) (p : ℕ) (t : TreeNo) (k : SubNo) (v : Version) (kind : Option TreeKind) → Runs s past p
    → Asks s p (keeping_in s past p).core t k → node_of s t.0 k.0 ≡ p → tree_kind_at s t.0 ≡ kind
    → IfSome (kept_by_kind s (keeping_in s past p).core t (SubLetter t k v) kind) (ActsOf s)
sub_acts s past p t k v (Some Update) g asks node is =
    let c : Core = (keeping_in s past p).core in
    parked_acts s t k (nat_lt c.node.turns.update.0 v.0) v (meets s t (ops_of s t.0 k.0) c) c (there_of s t.0 k.0 asks.sub)
    (met_way s past p t k g asks node is)
sub_acts s past p t k v (Some Strict) g asks node is = tt
sub_acts s past p t k v (Some Read) g asks node is = tt
sub_acts s past p t k v None g asks node is = tt

kept_acts : (s : ScriptData) (past : List Entry) (p from : ℕ) (body : Body) → Runs s past p → IsMeant s from p body
    → IfSome (core_keeping s (keeping_in s past p).core body) (ActsOf s)
kept_acts s past p from (Root t) g meant =
    root_acts s past p t (tree_kind_at s t.0) g (needed s past p from (Root t) g meant (inr tt)) (sym meant.home) refl
kept_acts s past p from (SubLetter t k v) g meant =
    sub_acts s past p t k v (tree_kind_at s t.0) g (needed s past p from (SubLetter t k v) g meant (inr tt)) (sym meant.node) refl
kept_acts s past p from _ g meant = tt

-- What the coordinator and the client send and do.
wakes_carried : (s : ScriptData) (test : KeepReason → Bool) (xs : List KeptLetter) → AreCarried s (wakes test xs)
wakes_carried s test [] = tt
wakes_carried s test (x ∷ xs) = by (test x.why) (wakes_carried s test xs) where
  by : (b : Bool) → AreCarried s (wakes test xs)
      → AreCarried s (if b then record { to = x.letter.to; body = Wake x.tree x.sub } ∷ wakes test xs else wakes test xs)
  by true rest = (tt, rest)
  by false rest = rest

coordinator_carried : (s : ScriptData) (e : Entry) → IsCoordinated s e → AreCarried s e.sent
coordinator_carried s e made =
    coordinated_each (Carries s) s e
    (record {
      turn = λ v. tt;
      show = λ v. tt;
      sweep = λ v. tt;
      order = λ n what v. tt;
      ask = λ n. tt;
      ask_done = λ v k. tt;
      ask_asked = λ v k. tt;
      advanced = λ v. tt;
    }) made

rows_carried : (s : ScriptData) (k : ℕ) (rows : List ScriptRow) → AreCarried s (rows_letters s k rows)
rows_carried s k rows =
    rows_each (λ to b. Carries s b) s k rows
    (record { root = λ to t. tt; advance = λ to. tt; numbered = λ to i. tt; lose = λ to. tt })

-- an actor's letters and acts
record Says (s : ScriptData) (letters : List Outgoing) (did : List Act) : Type 0 where
  sent : AreCarried s letters
  acts : AllByRecursion (IsActOf s) did

abbrev SaysOut : ScriptData → Out Client → Type 0
SaysOut s out = Says s out.sent out.acts

-- the rows that the client submits
abbrev next_rows : ScriptData → Client → List ScriptRow
next_rows s c = take (submitted c (take c.next s.rows) (drop c.next s.rows)) (drop c.next s.rows)

client_submits : (s : ScriptData) (c : Client) (first : List Outgoing) → AreCarried s first
    → SaysOut s (submit s c first)
client_submits s c first one = record {
  sent = each_append (λ (o : Outgoing). Carries s o.body) first (rows_letters s (advances_sent s c) (next_rows s c)) one
      (rows_carried s (advances_sent s c) (next_rows s c));
  acts = by (client_finishes s (next_after s c) c);
} where
  by : (b : Bool) → AllByRecursion (IsActOf s) (if b then acts.Finished ∷ [] else [])
  by true = (tt, tt)
  by false = tt

client_says : (s : ScriptData) (c : Client) (body : Body) → SaysOut s (client_row s c body)
client_says s c Go = client_submits s c [] tt
client_says s c (Reply t v answer) = by (nat_lt t.0 (length s.trees)) where
  by : (b : Bool) → SaysOut s (if b then submit s (with_answer t.0 c) (nudge s ∷ []) else still c)
  by true = client_submits s (with_answer t.0 c) (nudge s ∷ []) (tt, tt)
  by false = record { sent = tt; acts = tt }
client_says s c (Advanced v) = client_submits s (with_end s v c) [] tt
client_says s c (Ask e) = asked_each (SaysOut s) s c e (record { sent = tt; acts = tt }) (λ is. record { sent = (tt, tt); acts = tt })
client_says s c _ = record { sent = tt; acts = tt }

-- An entry.
pub record IsEntryOf (s : ScriptData) (past : List Entry) (e : Entry) : Type 0 where
  pub actor : e.actor.0 < s.nodes + 2
  pub sent : AreCarried s e.sent
  pub acts : AllByRecursion (IsActOf s) e.acts
  pub cores : (p : ℕ) → p < s.nodes → Gathers s (keeping_in s (e ∷ past) p).core

-- the cores, where that of one node is known
with_core : (s : ScriptData) (past : List Entry) (e : Entry) (q : ℕ) → e.actor.0 ≡ q → AllCarried s past
    → Gathers s (keeping_in s (e ∷ past) q).core → (p : ℕ) → p < s.nodes → Gathers s (keeping_in s (e ∷ past) p).core
with_core s past e q at all one p lt = by (cases_eq e.actor.0 p) where
  by : (e.actor.0 ≡ p) ⊎ (e.actor.0 ≢ p) → Gathers s (keeping_in s (e ∷ past) p).core
  by (inl is) = subst (λ (n : ℕ). Gathers s (keeping_in s (e ∷ past) n).core) (sym at ∙ is) one
  by (inr ne) = subst (λ (n : KeepingNode). Gathers s n.core) (sym (keeping_elsewhere s past e p ne)) (all.cores p lt)

other_core : (s : ScriptData) (past : List Entry) (e : Entry) → (e.actor.0 < s.nodes → ⊥) → AllCarried s past
    → (p : ℕ) → p < s.nodes → Gathers s (keeping_in s (e ∷ past) p).core
other_core s past e out all p lt =
    subst (λ (n : KeepingNode). Gathers s n.core)
    (sym (keeping_elsewhere s past e p (λ is. out (subst (λ (n : ℕ). n < s.nodes) (sym is) lt)))) (all.cores p lt)

does_so : (s : ScriptData) (past : List Entry) (e : Entry) (p : ℕ) (r : Letter) → Runs s past p → AllCarried s past
    → IsStepRun s (e ∷ past) → Does s past e p r → IsEntryOf s past e
does_so s past e p r g all run d =
    let c : Core = (keeping_in s past p).core in
    let b = brings_to s past e p r d.brings in
    let meant = brought_meant s past e p r g.valid b run in
    let carried = each_of_brought (IsCarried s) s past e p r b run.0 all.letters in
    let steps = core_steps s p r.from.0 r.body c (needed s past p r.from.0 r.body g meant carried) g.gathers in
    let woken = kept_without (kept_in s past p) e.took.body in
    record {
      actor = (let at = d.brings.at in let lt = g.below in omega arith);
      sent = subst (AreCarried s) (sym d.sent)
          (each_append (λ (o : Outgoing). Carries s o.body) _ (wakes (woken_by c r.body) woken) steps.sent
          (wakes_carried s (woken_by c r.body) woken));
      acts = subst (AllByRecursion (IsActOf s)) (sym d.acts) steps.acts;
      cores = with_core s past e p d.brings.at all (subst (Gathers s) (sym d.core) steps.gathers);
    }

keeps_so : (s : ScriptData) (past : List Entry) (e : Entry) (p : ℕ) (r : Letter) (k : CoreKeeping) → Runs s past p → AllCarried s past
    → IsStepRun s (e ∷ past) → Keeps s past e p r k → IsEntryOf s past e
keeps_so s past e p r k g all run d =
    let c : Core = (keeping_in s past p).core in
    let b = brings_to s past e p r d.brings in
    let meant = brought_meant s past e p r g.valid b run in
    let did : ActsOf s k = subst (λ (o : Option CoreKeeping). IfSome o (ActsOf s)) d.keeps (kept_acts s past p r.from.0 r.body g meant) in
    let same : Gathers s k.state =
    of_kept s c (λ (x : CoreKeeping). Gathers s x.state) r.body k
    (record {
      parks = λ t j raises v m.
          record { small = g.gathers.small; opened = g.gathers.opened; holds = g.gathers.holds; refusals = g.gathers.refusals };
      waits = λ t. g.gathers;
    }) d.keeps in
    record {
      actor = (let at = d.brings.at in let lt = g.below in omega arith);
      sent = subst (AreCarried s) (sym d.sent) tt;
      acts = subst (AllByRecursion (IsActOf s)) (sym d.acts) did;
      cores = with_core s past e p d.brings.at all (subst (Gathers s) (sym d.core) same);
    }

entry_so : (s : ScriptData) (past : List Entry) (e : Entry) → IsValid s → AllApt s past → IsStepRun s (e ∷ past) → AllCarried s past
    → Case s past e → IsEntryOf s past e
entry_so s past e valid apt run all (NodeDoes p r d) =
    let g : Runs s past p =
    record { valid = valid; apt = apt; run = run.1; below = d.brings.below; gathers = all.cores p d.brings.below } in
    does_so s past e p r g all run d
entry_so s past e valid apt run all (NodeKeeps p r k d) =
    let g : Runs s past p =
    record { valid = valid; apt = apt; run = run.1; below = d.brings.below; gathers = all.cores p d.brings.below } in
    keeps_so s past e p r k g all run d
entry_so s past e valid apt run all (Coordinates at made) = record {
  actor = omega arith;
  sent = coordinator_carried s e made;
  acts = subst (AllByRecursion (IsActOf s)) (sym made.acts) tt;
  cores = other_core s past e (λ lt. omega (arith, at, lt)) all;
}
entry_so s past e valid apt run all (Submits at says) =
    let says_so = client_says s (client_in s past) e.took.body in
    record {
      actor = omega arith;
      sent = subst (AreCarried s) (sym says.0) says_so.sent;
      acts = subst (AllByRecursion (IsActOf s)) (sym says.1) says_so.acts;
      cores = other_core s past e (λ lt. omega (arith, at, lt)) all;
    }

-- In every run.
start_gathers : (s : ScriptData) (p : ℕ) → IsValid s → Gathers s (keeping_in s [] p).core
start_gathers s p valid = record {
  small = small_items_at s.nodes p 0 s.items valid.items;
  opened = λ n. tt;
  holds = λ n. tt;
  refusals = λ n. tt;
}

pub next_entry : (s : ScriptData) (past : List Entry) (e : Entry) → IsValid s → AllApt s (e ∷ past) → IsStepRun s (e ∷ past)
    → AllCarried s past → IsEntryOf s past e
next_entry s past e valid apt run all = entry_so s past e valid apt.1 run all (case s past e run.0 apt.0)

pub all_carried : (s : ScriptData) (past : List Entry) → IsValid s → AllApt s past → IsStepRun s past → AllCarried s past
all_carried s [] valid apt run = record {
  cores = λ p lt. start_gathers s p valid;
  letters = each_first (IsCarried s) s (inl refl, tt);
}
all_carried s (e ∷ past) valid apt run =
    let all = all_carried s past valid apt.1 run.1 in
    let next = next_entry s past e valid apt run all in
    record {
      cores = next.cores;
      letters = each_outstanding (IsCarried s) s past e run.0 all.letters
          (each_map (λ (o : Outgoing). Carries s o.body) (λ (o : Outgoing). LetterId → (o.body ≡ Go) ⊎ Carries s o.body) e.sent
          (λ o of id. inr of) next.sent);
    }
