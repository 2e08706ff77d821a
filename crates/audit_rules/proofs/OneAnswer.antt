-- An act is one answer at the most.
use Rattle.std.proofs.Common.{◌≡◌, ℕ, ◌==◌, Option, Some, None, Bool, true, false, refl, sym, ap, ◌∙◌}
use Rattle.audit_stun.specs.declared.class.Class.{Class}
use Rattle.audit_stun.specs.declared.class.Class.TheVariants.{Request, Indication, Success, Error}
use Rattle.audit_stun.specs.declared.numbers.method.TheConstants.{BINDING, ALLOCATE, REFRESH, CREATE_PERMISSION, CHANNEL_BIND}
use Rattle.audit_rules.specs.declared.path.Path.{Path}
use Rattle.audit_rules.specs.declared.path.Path.TheVariants.{Client, Relay}
use Rattle.audit_rules.specs.Allocation.{Change}
use Rattle.audit_rules.specs.Situation.{Situation, arrival_parts, answered, arrival_path, departure_path}
use Rattle.audit_rules.specs.Values.{AreBytes}
use Rattle.audit_rules.specs.Standing.{IsResponse}
use Rattle.audit_rules.specs.Answer.{Answers, Case, Binding, Error as ErrorCase, New, Again, Refresh, Permission, ChannelBind, Send, ChannelUp, Data, ChannelDown}
use Rattle.audit_rules.specs.FirstRule.{made_it, is_channel}
use Rattle.audit_rules.proofs.Chosen.{made_true, made_false, again_is, message_is_none, channel_is}

abbrev pick : Bool → Case → Case → Case
pick true this that = this
pick false this that = that

abbrev kind_of_method : Situation → ℕ → Case
kind_of_method x m =
    pick (m == BINDING) Binding (pick (m == ALLOCATE) (pick (made_it x x.allocation) Again New) (pick (m == REFRESH) Refresh (pick (m == CREATE_PERMISSION) Permission ChannelBind)))

abbrev kind_of_class : Situation → Class → Case
kind_of_class x Success = kind_of_method x (answered x).method
kind_of_class x Error = ErrorCase
kind_of_class x Request = Binding
kind_of_class x Indication = Binding

abbrev kind_of_paths : Situation → Option Path → Option Path → Case
kind_of_paths x (Some Client) (Some Client) = kind_of_class x (answered x).class
kind_of_paths x (Some Client) (Some Relay) = pick (is_channel x.arrives.payload) ChannelUp Send
kind_of_paths x (Some Relay) (Some Client) = pick (is_channel x.leaves.payload) ChannelDown Data
kind_of_paths x (Some Relay) (Some Relay) = Binding
kind_of_paths x (Some Client) None = Binding
kind_of_paths x (Some Relay) None = Binding
kind_of_paths x None d = Binding

abbrev kind : Situation → Case
kind x = kind_of_paths x (arrival_path x) (departure_path x)

kind_at : (x : Situation) (a d : Option Path) → arrival_path x ≡ a → departure_path x ≡ d → kind x ≡ kind_of_paths x a d
kind_at x a d e f = ap (λ p. kind_of_paths x p (departure_path x)) e ∙ ap (kind_of_paths x a) f

kind_of_response : (x : Situation) (class : Class) (method : ℕ) → IsResponse x class method → kind x ≡ kind_of_class x class
kind_of_response x class method r = kind_at x (Some Client) (Some Client) r.forth r.back ∙ ap (kind_of_class x) r.response.1

kind_of_success : (x : Situation) (method : ℕ) → IsResponse x Success method → kind x ≡ kind_of_method x method
kind_of_success x method r = kind_of_response x Success method r ∙ ap (kind_of_method x) r.response.2

kind_of_allocate : (x : Situation) (made : Bool) → IsResponse x Success ALLOCATE → made_it x x.allocation ≡ made → kind x ≡ pick made Again New
kind_of_allocate x made r e = kind_of_success x ALLOCATE r ∙ ap (λ b. pick b Again New) e

kind_up : (x : Situation) (b : Bool) → arrival_path x ≡ Some Client → departure_path x ≡ Some Relay → is_channel x.arrives.payload ≡ b → kind x ≡ pick b ChannelUp Send
kind_up x b f g e = kind_at x (Some Client) (Some Relay) f g ∙ ap (λ c. pick c ChannelUp Send) e

kind_down : (x : Situation) (b : Bool) → arrival_path x ≡ Some Relay → departure_path x ≡ Some Client → is_channel x.leaves.payload ≡ b → kind x ≡ pick b ChannelDown Data
kind_down x b f g e = kind_at x (Some Relay) (Some Client) f g ∙ ap (λ c. pick c ChannelDown Data) e

kind_is : (case : Case) (x : Situation) (change : Change) → AreBytes x.arrives.payload → AreBytes x.leaves.payload → Answers case x change → kind x ≡ case
kind_is Binding x change up down r = kind_of_success x BINDING r.0.response
kind_is ErrorCase x change up down r = kind_of_response x Error (arrival_parts x).method r.0.response
kind_is New x change up down r = kind_of_allocate x false r.response (made_false x (made_it x x.allocation) refl r.first)
kind_is Again x change up down r = kind_of_allocate x true r.0.response (made_true x x.allocation (again_is x r.0))
kind_is Refresh x change up down r = kind_of_success x REFRESH r.response
kind_is Permission x change up down r = kind_of_success x CREATE_PERMISSION r.response
kind_is ChannelBind x change up down r = kind_of_success x CHANNEL_BIND r.response
kind_is Send x change up down r = kind_up x false r.0.goes.0 r.0.goes.1 (message_is_none x.arrives.payload (arrival_parts x) r.0.indication.0)
kind_is ChannelUp x change up down r = kind_up x true r.0.goes.0 r.0.goes.1 (channel_is x.arrives.payload r.0.number x.leaves.payload r.0.past up r.0.says)
kind_is Data x change up down r = kind_down x false r.0.goes.0 r.0.goes.1 (message_is_none x.leaves.payload (answered x) r.0.indication.0)
kind_is ChannelDown x change up down r = kind_down x true r.0.goes.0 r.0.goes.1 (channel_is x.leaves.payload r.0.number x.arrives.payload r.0.past down r.0.says)

pub same_case : (one other : Case) (x : Situation) (c d : Change) → AreBytes x.arrives.payload → AreBytes x.leaves.payload → Answers one x c → Answers other x d → one ≡ other
same_case one other x c d up down r s = sym (kind_is one x c up down r) ∙ kind_is other x d up down s
