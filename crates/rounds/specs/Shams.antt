-- A small machine whose poll and interrupt can be exchanged: an honest one, and the shams that demand 3 must shut out.
-- Examples: nothing that is promised of the driver rests on this file.
-- Assumes nothing.
use Rattle.std.specs.Prelude.{◌≡◌, Bool, true, false, not, cond, ◌&&◌, ◌||◌, List, [], ◌∷◌, ℕ, zero, suc, ◌≤◌, T, leb, eqb}
use Rattle.rounds.specs.Machine.{Event, arrival, interrupt, round, pause, quiet, Machine}
use Rattle.rounds.specs.Sentences.{Calls}

-- one bit for each of the bus events
pub record Bus : Type 0 where
  pub reset : Bool
  pub resume : Bool
  pub suspend : Bool

-- Words of bits are tests on the endpoint.
pub record State : Type 0 where
  pub ready : ℕ → Bool  -- RxPktRdy
  pub length : ℕ → ℕ  -- of the packet that waits
  pub due : ℕ → Bool  -- the interrupt registers: receive, transmit, bus
  pub gone : ℕ → Bool
  pub raised : Bus
  pub flag : ℕ → Bool  -- the driver's flags: receive, transmit, bus
  pub sent : ℕ → Bool
  pub bus : Bus
  pub first : List Event  -- the first poll's answer; one sham keeps it

pub data Op : Type 0 where
  arrive : ℕ → ℕ → Op  -- at an endpoint a packet of so many bytes arrives
  collect take : ℕ → Op  -- is collected, is read
  raise : Bus → Op
  irq poll : Op

-- What a poll gives: its answer, and the state after it.
pub record Polled : Type 0 where
  pub event : Event
  pub state : State

abbrev pub none : ℕ → Bool
none j = false

abbrev pub calm : Bus
calm = record { reset = false; resume = false; suspend = false }

abbrev pub both_bus : Bus → Bus → Bus
both_bus a b = record { reset = a.reset || b.reset; resume = a.resume || b.resume; suspend = a.suspend || b.suspend }

abbrev pub start : State
start = record { ready = none; length = λ j. 0; due = none; gone = none; raised = calm; flag = none; sent = none; bus = calm; first = [] }

abbrev pub arrived : State → ℕ → ℕ → State
arrived s e n =
    record { ready = λ j. eqb j e || s.ready j; length = λ j. cond (eqb j e) n (s.length j); due = λ j. eqb j e || s.due j; gone = s.gone; raised = s.raised; flag = s.flag; sent = s.sent; bus = s.bus; first = s.first }

abbrev pub collected : State → ℕ → State
collected s e =
    record { ready = s.ready; length = s.length; due = s.due; gone = λ j. eqb j e || s.gone j; raised = s.raised; flag = s.flag; sent = s.sent; bus = s.bus; first = s.first }

abbrev pub emptied : State → ℕ → State
emptied s e =
    record { ready = λ j. s.ready j && not (eqb j e); length = s.length; due = s.due; gone = s.gone; raised = s.raised; flag = s.flag; sent = s.sent; bus = s.bus; first = s.first }

abbrev pub bus_raised : State → Bus → State
bus_raised s b =
    record { ready = s.ready; length = s.length; due = s.due; gone = s.gone; raised = both_bus s.raised b; flag = s.flag; sent = s.sent; bus = s.bus; first = s.first }

abbrev pub taken : State → State
taken s =
    record {
      ready = s.ready;
      length = s.length;
      due = none;
      gone = none;
      raised = calm;
      flag = λ j. s.flag j || s.due j;
      sent = λ j. s.sent j || s.gone j;
      bus = both_bus s.bus s.raised;
      first = s.first;
    }

abbrev pub with_flags : State → (ℕ → Bool) → (ℕ → Bool) → State
with_flags s flag sent =
    record { ready = s.ready; length = s.length; due = s.due; gone = s.gone; raised = s.raised; flag = flag; sent = sent; bus = s.bus; first = s.first }

abbrev pub with_bus : State → Bus → State
with_bus s bus =
    record { ready = s.ready; length = s.length; due = s.due; gone = s.gone; raised = s.raised; flag = s.flag; sent = s.sent; bus = bus; first = s.first }

abbrev pub with_first : State → List Event → State
with_first s first =
    record { ready = s.ready; length = s.length; due = s.due; gone = s.gone; raised = s.raised; flag = s.flag; sent = s.sent; bus = s.bus; first = first }

-- every packet that waits is thrown away
abbrev pub thrown : State → State
thrown s =
    record { ready = none; length = s.length; due = s.due; gone = s.gone; raised = s.raised; flag = s.flag; sent = s.sent; bus = s.bus; first = s.first }

-- every packet that waits stays, with no byte left
abbrev pub hollowed : State → State
hollowed s =
    record { ready = s.ready; length = λ j. 0; due = s.due; gone = s.gone; raised = s.raised; flag = s.flag; sent = s.sent; bus = s.bus; first = s.first }

-- the order of a poll: Reset, Resume, Suspend, each of which puts down its own flag, then a round
abbrev pub in_order : Bool → Bool → Bool → State → Polled → Polled
in_order true resume suspend s r =
    record { event = pause; state = with_bus s (record { reset = false; resume = s.bus.resume; suspend = s.bus.suspend }) }
in_order false true suspend s r =
    record { event = pause; state = with_bus s (record { reset = s.bus.reset; resume = false; suspend = s.bus.suspend }) }
in_order false false true s r =
    record { event = pause; state = with_bus s (record { reset = s.bus.reset; resume = s.bus.resume; suspend = false }) }
in_order false false false s r = r

-- the same with the source's Suspend step, which puts down reset's flag and never its own
abbrev pub in_source_order : Bool → Bool → Bool → State → Polled → Polled
in_source_order true resume suspend s r = in_order true resume suspend s r
in_source_order false true suspend s r = in_order false true suspend s r
in_source_order false false true s r =
    record { event = pause; state = with_bus s (record { reset = false; resume = s.bus.resume; suspend = s.bus.suspend }) }
in_source_order false false false s r = r

-- a poll that names `out` and `complete` in its rounds, and leaves the flags `flag` and `sent`
abbrev pub polling : (out complete flag sent : State → ℕ → Bool) → State → Polled
polling out complete flag sent s =
    in_order s.bus.reset s.bus.resume s.bus.suspend s
    (record { event = round (out s) (complete s); state = with_flags s (flag s) (sent s) })

-- a flag is up, and nothing waits
abbrev pub drained : (ℕ → Bool) → (ℕ → Bool) → ℕ → Bool
drained flag ready n = flag n && not (ready n)

-- the flags without that of the highest drained endpoint below n
abbrev pub without : (ℕ → Bool) → (ℕ → Bool) → ℕ → ℕ → Bool
without flag ready zero j = flag j
without flag ready (suc n) j = cond (drained flag ready n) (flag j && not (eqb j n)) (without flag ready n j)

-- how many bytes an operation brings
abbrev pub brings : Op → ℕ
brings (arrive e n) = n
brings (collect e) = 0
brings (take e) = 0
brings (raise b) = 0
brings irq = 0
brings poll = 0

module _ (top : ℕ) where
  -- an arrival is answered at an endpoint of the machine where none waits
  abbrev pub accepts : State → ℕ → Bool
  accepts s e = leb e top && not (s.ready e)

  -- a machine whose interrupt is `on` and whose poll is `ask`
  module _ (on : State → State) (ask : State → Polled) where
    abbrev pub step : State → Op → State
    step s (arrive e n) = cond (accepts s e) (arrived s e n) s
    step s (collect e) = collected s e
    step s (take e) = emptied s e
    step s (raise b) = bus_raised s b
    step s irq = on s
    step s poll = (ask s).state

    abbrev pub event : State → Op → Event
    event s (arrive e n) = cond (accepts s e) (arrival e) quiet
    event s (collect e) = quiet
    event s (take e) = quiet
    event s (raise b) = quiet
    event s irq = interrupt s.gone
    event s poll = (ask s).event

    -- a packet is taken by being read
    abbrev pub takes : State → Op → ℕ → Bool
    takes s (arrive i n) e = false
    takes s (collect i) e = false
    takes s (take i) e = eqb e i
    takes s (raise b) e = false
    takes s irq e = false
    takes s poll e = false

    abbrev pub machine : Machine
    machine =
        record {
          top = top;
          State = State;
          Op = Op;
          fresh = start;
          step = step;
          event = event;
          waiting = λ s e. s.ready e;
          length = λ s e. s.length e;
          takes = takes;
          brings = brings;
        }

    abbrev pub calls : Calls machine
    calls = record { Good = λ s. T true; Poll = λ o. o ≡ poll; Interrupt = λ o. o ≡ irq; Arrival = λ s e o. (e ≤ top) × (n : ℕ) × (o ≡ arrive e n); Read = λ s e o. o ≡ take e }

  abbrev pub small : (State → Polled) → Machine
  small ask = machine taken ask

  -- the walk: "one round clears only the highest drained one"
  abbrev pub walked : State → ℕ → Bool
  walked s = without s.flag s.ready (suc top)

  abbrev pub honest : State → Polled
  honest = polling walked (λ s. s.sent) walked (λ s. none)

  -- honest, with the source's Suspend step: once a suspend is taken no poll is a round any more. "The port stays dead until someone pulls the fuse."
  abbrev pub stays_asleep : State → Polled
  stays_asleep s =
      in_source_order s.bus.reset s.bus.resume s.bus.suspend s
      (record { event = round (walked s) s.sent; state = with_flags s (walked s) none })

  -- never clears a flag
  abbrev pub never_clears : State → Polled
  never_clears = polling (λ s. s.flag) (λ s. s.sent) (λ s. s.flag) (λ s. none)

  -- clears the flag of a waiting endpoint
  abbrev pub clears_waiting : State → Polled
  clears_waiting = polling walked (λ s. s.sent) (λ s. none) (λ s. none)

  -- keeps a transmit flag
  abbrev pub keeps_sent : State → Polled
  keeps_sent = polling walked (λ s. s.sent) walked (λ s. s.sent)

  -- answers None under a flag that it should report: a receive flag, a transmit flag
  abbrev pub hides_receive : State → Polled
  hides_receive = polling (λ s. none) (λ s. s.sent) walked (λ s. none)

  abbrev pub hides_sent : State → Polled
  hides_sent = polling walked (λ s. none) walked (λ s. none)

  -- works once, and then repeats its first answer
  abbrev pub again : List Event → State → Polled
  again [] s = let p = honest s in record { event = p.event; state = with_first p.state (p.event ∷ []) }
  again (v ∷ vs) s = record { event = v; state = s }

  abbrev pub repeats : State → Polled
  repeats s = again s.first s

  -- names every packet, and throws it away before it can be read: all four sentences hold of it
  abbrev pub throws_away : State → Polled
  throws_away s = let p = honest s in record { event = p.event; state = thrown p.state }

  -- names every packet, and leaves no byte of it: all four sentences hold of it, and every packet waits until it is taken
  abbrev pub empties_waiting : State → Polled
  empties_waiting s = let p = honest s in record { event = p.event; state = hollowed p.state }

  abbrev pub always_none : State → Polled
  always_none s = record { event = round none none; state = s }

  abbrev pub always_reset : State → Polled
  always_reset s = record { event = pause; state = s }

  -- refuses every poll: all four sentences hold of it
  abbrev pub refuses : State → Polled
  refuses s = record { event = quiet; state = s }

-- honestly polled, but its interrupt throws every packet away: all four sentences hold of it too
abbrev pub throws_taken : ℕ → Machine
throws_taken top = machine top (λ s. thrown (taken s)) (honest top)

-- the small machine with the display's endpoints, polled by one of these
abbrev pub display : ((top : ℕ) → State → Polled) → Machine
display ask = small 5 (ask 5)

-- throws every packet away, and calls its polls takers
abbrev pub calls_takers : Machine
calls_takers =
    let M = display throws_away in
    record {
      top = M.top;
      State = M.State;
      Op = M.Op;
      fresh = M.fresh;
      step = M.step;
      event = M.event;
      waiting = M.waiting;
      length = M.length;
      takes = λ s o e. true;
      brings = M.brings;
    }
