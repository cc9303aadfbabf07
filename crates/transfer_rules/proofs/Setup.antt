-- A read of a Setup packet and an empty write in Idle leave what specs/Setup.antt says. Assumes nothing.
use Prim.Native.Nat.{ℕ, ◌+◌, ◌*◌, ◌<◌}
use mathlib.Core.Path.{◌≡◌, refl, sym, ap, subst, ◌∙◌}
use mathlib.Core.Bool.{Bool, true, false, cond}
use mathlib.Core.List.{List, [], ◌∷◌}
use native.Mathlib.Omega.{arith}
use borrow.Author.Tests.{eq-eqb, ne_eqb}
use lib.Dec.{eqb}
use lib.ListN.{get_or}
use Rattle.laws.specs.Words.{bit}
use Rattle.laws.proofs.Lists.{pasted_nil}
use Rattle.laws.proofs.Range.{same, same→eq, all_at}
use Rattle.board.specs.declared.Board.{Board}
use Rattle.board.specs.declared.Direction.TheVariants.{In}
use Rattle.csr.specs.Control.{csr0l_set}
use Rattle.csr.specs.declared.Csr0lSet.TheVariants as csr0l
use Rattle.register_file.specs.Control.{csr0l_read}
use Rattle.store_rules.specs.Stores.{Log, modify_csr0l, write_index, write_packet}
use Rattle.control_state.specs.declared.ControlState.{ControlState}
use Rattle.control_state.specs.declared.ControlStateEnum.{ControlStateEnum}
use Rattle.control_state.specs.declared.ControlStateEnum.TheVariants.{Idle, Setup}
use Rattle.record.specs.declared.Flags.{Flags}
use Rattle.record.specs.Record.{area_in}
use Rattle.transfer_rules.specs.Peek.{After, ended}
use Rattle.transfer_rules.specs.ReadZero.{w_length, way_in, set_up, zero_by, read_zero}
use Rattle.transfer_rules.specs.Read as read
use Rattle.transfer_rules.specs.WriteZero.{accepted, sent_zero}
use Rattle.transfer_rules.specs.Write as write
use Rattle.transfer_rules.specs.Setup.{StoresZero, NoData, SetsUp, Accepts}

-- the two stores
serviced : (g : Log) → StoresZero false true g (modify_csr0l csr0l.ServicedRxPktRdy g)
unfolding modify_csr0l csr0l_set csr0l_read
serviced g = record {
  word = csr0l_set csr0l.ServicedRxPktRdy (csr0l_read g.regs);
  store = refl;
  ends = refl;
  answers = refl;
  received = refl;
  sending = refl;
  sent = refl;
  halt = refl;
  setup = refl;
  unanswered = refl;
}

pub data_end : (g : Log) → StoresZero true false g (modify_csr0l csr0l.DataEnd g)
unfolding modify_csr0l csr0l_set csr0l_read
data_end g = record {
  word = csr0l_set csr0l.DataEnd (csr0l_read g.regs);
  store = refl;
  ends = refl;
  answers = refl;
  received = refl;
  sending = refl;
  sent = refl;
  halt = refl;
  setup = refl;
  unanswered = refl;
}

-- bit 7 of the first byte, computed at every byte
top_bit : ℕ → Bool
unfolding bit way_in
top_bit w = same (way_in (w ∷ [])) (bit w 7)

top_bit_lem : (w : ℕ) → w < 256 → way_in (w ∷ []) ≡ bit w 7
unfolding top_bit
top_bit_lem w h = same→eq _ _ (all_at top_bit 256 tt w h)

module _ (b : List ℕ) where
  way : {v : Bool} → get_or b 0 0 < 256 → bit (get_or b 0 0) 7 ≡ v → way_in b ≡ v
  unfolding way_in
  way h p = top_bit_lem (get_or b 0 0) h ∙ p

  length_is : w_length b ≡ get_or b 6 0 + 256 * get_or b 7 0
  unfolding w_length
  length_is = omega arith

  none : NoData b → w_length b ≡ 0
  none (l, h) = omega (arith, length_is, l, h)

  some : (NoData b → ⊥) → w_length b ≡ 0 → ⊥
  some n z = n (omega (arith, length_is, z), omega (arith, length_is, z))

-- whatever w_length is
flags_by : (f : Flags) (v : Bool) (x y : After) → x.irq ≡ f → y.irq ≡ f → (cond v x y).irq ≡ f
flags_by f true x y p q = p
flags_by f false x y p q = q

flags_kept : (b : List ℕ) (c : ControlState) (f : Flags) (g : Log) → (set_up b c f g).irq ≡ f
unfolding set_up ended
flags_kept b c f g = flags_by f (eqb (w_length b) 0) _ _ refl refl

-- the buffer b has the packet's bytes
module _ (b : List ℕ) (c : ControlState) (f : Flags) (g : Log) (byte : get_or b 0 0 < 256) where
  set_up_lem : SetsUp b c f g (set_up b c f (modify_csr0l csr0l.ServicedRxPktRdy g))
  unfolding set_up ended
  set_up_lem = record {
    nodata = λ z. rw (eq-eqb (w_length b) 0 (none b z)) (refl, refl, record { between = _; first = serviced g; then = data_end _ });
    from_host = λ n t. rw (ne_eqb (w_length b) 0 (some b n), way b byte t) (refl, refl, serviced g);
    to_host = λ n t. rw (ne_eqb (w_length b) 0 (some b n), way b byte t) (refl, length_is b, serviced g);
    flags = flags_kept b c f (modify_csr0l csr0l.ServicedRxPktRdy g);
  }

  read_zero_lem : (n size : ℕ) → c.state ≡ Setup → SetsUp b c f g (read_zero b n size c f g)
  unfolding read_zero
  read_zero_lem n size e =
      subst (λ (s : ControlStateEnum). SetsUp b c f g (zero_by s b n size c f (modify_csr0l csr0l.ServicedRxPktRdy g))) (sym e) set_up_lem

-- a read at endpoint 0 in Setup, whose tests let it through: the bytes are those that it put into the caller's buffer
pub sets_up : (b : Board) (c : ControlState) (f : Flags) (size : ℕ) (x y : List ℕ) (g : Log) → c.state ≡ Setup → get_or (read.read_done b c f size 0 x y g).buf 0 0 < 256
    → SetsUp (read.read_done b c f size 0 x y g).buf c f (write_index 0 g) (read.read_done b c f size 0 x y g).after
unfolding read.read_done read.got
sets_up b c f size x y g e h = read_zero_lem _ c f (write_index 0 g) h _ size e

-- an empty write at endpoint 0 in Idle
idle_written : (t : ℕ) (c : ControlState) (f : Flags) (g : Log) → c.state ≡ Idle → sent_zero c.state 0 t c f g ≡ accepted c f g
idle_written t c f g e = rw e

pub accepts : (b : Board) (c : ControlState) (f : Flags) (t : ℕ) (x : List ℕ) (g : Log) → c.state ≡ Idle → Accepts c f x g (write.write_done b c f t 0 [] x g)
unfolding write.write_done write.sent write.loaded write_packet accepted
accepts b c f t x g e =
    let p = idle_written t c f (write_index 0 g) e in
    record {
      accepted = ap (λ (o : After). o.control.state) p;
      remaining = ap (λ (o : After). o.control.tx_len) p;
      flags = ap (λ (o : After). o.irq) p;
      stored = ap (λ (o : After). o.log) p;
      fifo = pasted_nil x (area_in b 0 In).start;
      answer = refl;
    }
