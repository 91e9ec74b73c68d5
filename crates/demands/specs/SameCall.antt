-- Demand 3: two cabs of one group that know of the same calls end in the same call, the best of them. Assumes nothing.
use Rattle.std.specs.Prelude.{◌≡◌, ◌⊎◌, ◌↔◌, true, false, ℕ}
use mathlib.Core.List.{List, [], ◌∷◌, Memᴰ}
use Rattle.frame.specs.declared.Media.{Media}
use Rattle.frame.specs.declared.GroupCall.{GroupCall}
use Rattle.frame.specs.declared.Message.TheVariants.{Announcement}
use Rattle.reader.specs.Line.{line_number, read_line, reading}
use Rattle.call.specs.Settings.{settings_good}
use Rattle.call.specs.declared.Settings.{Settings}
use Rattle.call.specs.declared.Input.{Input}
use Rattle.group_order.specs.Order.{is_better}
use Rattle.group_record.specs.Formed.{is_well_formed}
use Rattle.group_record.specs.declared.states.State.{State}
use Rattle.group_record.specs.declared.states.GroupRecord.{GroupRecord}
use Rattle.group_call.specs.Hearing.{HeardLine, Build, promised, answer_hearing, hear, hear_all}
use Rattle.stepping.specs.Answer.{Answer}
use Rattle.group_record.specs.declared.states.Timers.{Timers}

-- ---- a cab and the calls that it knows of

-- a cab, and the lines that it hears, in their order: any bytes, each with any verdicts and any lent buffer
pub record Cab : Type 0 where
  -- how it is set
  pub settings : Settings
  -- its record before the first line
  pub stored : GroupRecord
  -- the lines
  pub lines : List HeardLine

-- a group call in all nine fields: eight, and its media; confirm is none of them
abbrev pub Call : Type 0
Call = GroupCall × Media

-- the call that a record holds
abbrev pub call_of : GroupRecord → Call
call_of g = (g.call, g.media)

-- a line reads as the announcement of this call, with whatever confirm
abbrev pub Announcing : List ℕ → Call → Type 0
Announcing line c = (confirm : ℕ) × (read_line line ≡ reading (Announcement c.0 confirm) c.1)

-- some line announces this call, and the call is of the own group
abbrev pub HearsOf : Settings → List HeardLine → Call → Type 0
HearsOf s lines c = ((x : HeardLine) × Memᴰ x lines × Announcing x.line c) × (c.0.group ≡ s.own_group)

-- the set of a cab: the own call, and those of its group that it hears announced
abbrev pub Knows : Cab → Call → Type 0
Knows x c = (c ≡ call_of x.stored) ⊎ HearsOf x.settings x.lines c

-- ---- what is assumed

-- the cab is in a call: neither its settings nor its record are refused, and the state is S3
pub record InCall (s : Settings) (g : GroupRecord) : Type 0 where
  -- no 7
  pub settings : settings_good s ≡ true
  -- no 9
  pub formed : is_well_formed s g ≡ true
  -- S3
  pub ongoing : g.state ≡ State.S3

-- calls of a set with the same identifier are alike in all nine fields
abbrev pub Alike : (Call → Type 0) → Type 0
Alike known = (a b : Call) → known a → known b → a.0.identifier ≡ b.0.identifier → a ≡ b

-- two cabs know of the same calls: order and repeats do not count
pub record SameSet (x y : Cab) : Type 0 where
  -- what the first knows of, the second does
  pub there : (c : Call) → Knows x c → Knows y c
  -- what the second knows of, the first does
  pub back : (c : Call) → Knows y c → Knows x c

-- two cabs of one group, each in a call; both sets are the same one, and what either knows of is alike
pub record Together (x y : Cab) : Type 0 where
  -- one group
  pub one_group : x.settings.own_group ≡ y.settings.own_group
  -- the first is in a call
  pub first : InCall x.settings x.stored
  -- the second is in a call
  pub second : InCall y.settings y.stored
  -- same identifier, same call
  pub alike : Alike (λ c. Knows x c ⊎ Knows y c)
  -- the same set
  pub same_set : SameSet x y

-- ---- what follows

-- this call is the best of a set
pub record Best (known : Call → Type 0) (c : Call) : Type 0 where
  -- it is in the set
  pub member : known c
  -- none in the set is better
  pub none_better : (d : Call) → known d → is_better d.0 c.0 ≡ false

-- the record of a cab after its lines, by a build of the step
abbrev pub end_of : Build → Cab → GroupRecord
end_of b x = hear_all b x.settings x.stored x.lines

-- an answer to a line that sends nothing: the line's own number, length 0, and every byte of the lent buffer as it was
abbrev pub Unsent : HeardLine → Answer GroupRecord Timers × List ℕ → Type 0
Unsent x answer = (answer.0.number ≡ line_number x.line) × (answer.0.length ≡ 0) × (answer.1 ≡ x.lent)

-- every line is answered so
abbrev pub Silent : Build → Settings → GroupRecord → List HeardLine → Type 0
Silent b s g [] = Unit {0}
Silent b s g (x ∷ xs) = Unsent x (answer_hearing b s g x) × Silent b s (hear b s g x) xs

-- one cab: it stays in S3, its call is then the best of those that it knows of, and it sent nothing
pub record EndsInBest (b : Build) (x : Cab) : Type 0 where
  -- still in a call
  pub in_call : InCall x.settings (end_of b x)
  -- its call is the best
  pub best : Best (Knows x) (call_of (end_of b x))
  -- so it is better than every other
  pub others_worse : (c : Call) → Knows x c → (c ≡ call_of (end_of b x)) ⊎ (is_better (end_of b x).call c.0 ≡ true)
  -- no readable line was refused, and nothing was sent
  pub silent : Silent b x.settings x.stored x.lines

-- two cabs: each does so, and they are in the same call
pub record EndTogether (b : Build) (x y : Cab) : Type 0 where
  -- all nine fields are equal
  pub same_call : call_of (end_of b x) ≡ call_of (end_of b y)
  -- and so are the records, timers included
  pub same_record : end_of b x ≡ end_of b y
  -- the first
  pub first : EndsInBest b x
  -- the second
  pub second : EndsInBest b y

-- ---- the demand

-- every answer of a build is the one that the contract of the step names
abbrev pub IsPromised : Build → Type 0
IsPromised b = (s : Settings) (g : GroupRecord) (i : Input) (out : List ℕ) → b s g i out ≡ promised s g i out

-- a build brings one cab to the best call that it knows of, where calls with the same identifier are alike
abbrev pub BestCall : Build → Type 0
BestCall b = (x : Cab) → InCall x.settings x.stored → Alike (Knows x) → EndsInBest b x

-- a build brings any two cabs of one group that know of the same calls into the same call
abbrev pub SameCall : Build → Type 0
SameCall b = (x y : Cab) → Together x y → EndTogether b x y

-- with a build, two lists of lines that announce the same calls to a cab leave it with the same record: order, repeats, unreadable lines and other traffic count for nothing
abbrev pub AnyOrder : Build → Type 0
AnyOrder b =
    (s : Settings) (g : GroupRecord) (xs ys : List HeardLine) → InCall s g → Alike (Knows (record { settings = s; stored = g; lines = xs }))
    → ((c : Call) → HearsOf s xs c ↔ HearsOf s ys c) → hear_all b s g xs ≡ hear_all b s g ys
