-- Lines that ask for a step of the cluster, and for nothing else.
use Rattle.std.proofs.Common.{◌≡◌, ℕ, refl}
use Rattle.hx_ids.specs.declared.InstanceId.{InstanceId}
use Rattle.hx_ids.specs.declared.ControllerId.{ControllerId}
use Rattle.hx_ids.specs.declared.MsgId.{MsgId}
use Rattle.hx_ids.specs.declared.StateId.{StateId}
use Rattle.hx_script.specs.declared.ReadKind.{ReadKind}
use Rattle.hx_script.specs.declared.What.{What}
use Rattle.hx_script.specs.declared.What.TheVariants as asks
use Rattle.hx_script.specs.Asked.{step_asked}
use Rattle.hx_worlds.specs.declared.Voice.{Voice}
use Rattle.hx_worlds.specs.World.{State}
use Rattle.hx_worlds.specs.Scripts.{do_what, do_asked}

pub record IsAsking (w : What) : Type 0 where
  pub die : (i : InstanceId) → w ≡ asks.Die i → ⊥
  pub begin : (k : ControllerId) → w ≡ asks.Begin k → ⊥
  pub read : (k : ControllerId) (kind : ReadKind) → w ≡ asks.Read k kind → ⊥
  pub send : (k : ControllerId) → w ≡ asks.Send k → ⊥
  pub post : (k : ControllerId) → w ≡ asks.Post k → ⊥
  pub pass : (k : ControllerId) → w ≡ asks.Pass k → ⊥
  pub fetch : (i : InstanceId) → w ≡ asks.Fetch i → ⊥
  pub deliver : (i : InstanceId) (id : MsgId) → w ≡ asks.Deliver i id → ⊥
  pub take : (i : InstanceId) (id : MsgId) → w ≡ asks.Take i id → ⊥
  pub write : (i : InstanceId) (id : MsgId) → w ≡ asks.Write i id → ⊥
  pub ack : (i : InstanceId) (id : MsgId) → w ≡ asks.Ack i id → ⊥
  pub work : (i : InstanceId) → w ≡ asks.Work i → ⊥
  pub settle : w ≡ asks.Settle → ⊥
  pub view : w ≡ asks.View → ⊥
  pub route : (name : ℕ) (part : ℕ) (state : StateId) → w ≡ asks.Route name part state → ⊥
  pub summary : w ≡ asks.Summary → ⊥

pub asks_alone : (v : Voice) (w : What) (x : State) → IsAsking w → do_what v w x ≡ do_asked v (step_asked x.world.cluster w) x
asks_alone voice (asks.Join i) x is = refl
asks_alone voice (asks.Beat i) x is = refl
asks_alone voice (asks.Drain i) x is = refl
asks_alone voice (asks.Undrain i) x is = refl
asks_alone voice (asks.Tick n) x is = refl
asks_alone voice (asks.Expire i) x is = refl
asks_alone voice (asks.Add name model replicas parts mode) x is = refl
asks_alone voice (asks.Drop name) x is = refl
asks_alone voice (asks.List name part list) x is = refl
asks_alone voice (asks.Map name part map) x is = refl
asks_alone voice (asks.Reset i name part) x is = refl
asks_alone voice (asks.Lead k) x is = refl
asks_alone voice (asks.Stop k) x is = refl
asks_alone voice (asks.Start k) x is = refl
asks_alone voice (asks.Die i) x is = absurd (is.die i refl)
asks_alone voice (asks.Begin k) x is = absurd (is.begin k refl)
asks_alone voice (asks.Read k kind) x is = absurd (is.read k kind refl)
asks_alone voice (asks.Send k) x is = absurd (is.send k refl)
asks_alone voice (asks.Post k) x is = absurd (is.post k refl)
asks_alone voice (asks.Pass k) x is = absurd (is.pass k refl)
asks_alone voice (asks.Fetch i) x is = absurd (is.fetch i refl)
asks_alone voice (asks.Deliver i id) x is = absurd (is.deliver i id refl)
asks_alone voice (asks.Take i id) x is = absurd (is.take i id refl)
asks_alone voice (asks.Write i id) x is = absurd (is.write i id refl)
asks_alone voice (asks.Ack i id) x is = absurd (is.ack i id refl)
asks_alone voice (asks.Work i) x is = absurd (is.work i refl)
asks_alone voice asks.Settle x is = absurd (is.settle refl)
asks_alone voice asks.View x is = absurd (is.view refl)
asks_alone voice (asks.Route name part state) x is = absurd (is.route name part state refl)
asks_alone voice asks.Summary x is = absurd (is.summary refl)
