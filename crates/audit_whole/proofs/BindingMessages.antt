-- What the two payloads of the Binding capture say.
use Rattle.std.proofs.Common.{◌≡◌, ℕ, Some, List, [], ◌∷◌, refl, arith}
use Rattle.audit_stun.specs.declared.class.Class.TheVariants.{Request, Success}
use Rattle.audit_stun.specs.declared.numbers.attribute.TheConstants.{XOR_MAPPED_ADDRESS}
use Rattle.audit_stun.specs.Attribute.{Attribute, StartsWith}
use Rattle.audit_stun.specs.Counted.{counted, first_of}
use Rattle.audit_stun.specs.Message.{Parts, IsMessage}
use Rattle.audit_stun.specs.MessageType.{IsType}
use Rattle.audit_stun.specs.Parts.{parts_of, attributes_after}
use Rattle.audit_stun.specs.XorAddress.{address_of}
use Rattle.audit_rules.specs.Values.{address_named}
use Rattle.audit_whole.specs.BindingCapture.{the_client, request_payload, success_payload}

abbrev the_id : List ℕ
the_id = 1 ∷ 2 ∷ 3 ∷ 4 ∷ 5 ∷ 6 ∷ 7 ∷ 8 ∷ 9 ∷ 10 ∷ 11 ∷ 12 ∷ []

abbrev mapped : Attribute
mapped = record { kind = 32; value = 0 ∷ 1 ∷ 189 ∷ 82 ∷ 231 ∷ 33 ∷ 192 ∷ 69 ∷ [] }

abbrev pub request_parts : Parts
request_parts = record { class = Request; method = 1; tid = the_id; attributes = [] }

abbrev pub success_parts : Parts
success_parts = record { class = Success; method = 1; tid = the_id; attributes = mapped ∷ [] }

pub request_read : parts_of request_payload ≡ request_parts
unfolding parts_of attributes_after
request_read = refl

pub success_read : parts_of success_payload ≡ success_parts
unfolding parts_of attributes_after
success_read = refl

request_type : IsType 1 Request 1
request_type = record { high = 0; middle = 0; low = 1; five_bits = omega arith; three_bits = omega arith; four_bits = omega arith; joined = refl; in_order = refl }

success_type : IsType 257 Success 1
success_type = record { high = 0; middle = 0; low = 1; five_bits = omega arith; three_bits = omega arith; four_bits = omega arith; joined = refl; in_order = refl }

pub request_message : IsMessage request_payload request_parts
request_message = record { number = 1; body = []; spelled = refl; typed = request_type; twelve = refl; length_fits = omega arith; attributes = refl }

mapped_first : StartsWith (0 ∷ 32 ∷ 0 ∷ 8 ∷ 0 ∷ 1 ∷ 189 ∷ 82 ∷ 231 ∷ 33 ∷ 192 ∷ 69 ∷ []) mapped []
mapped_first = record { padding = []; spelled = refl; few = omega arith; aligned = refl; kind_fits = omega arith; length_fits = omega arith }

pub success_message : IsMessage success_payload success_parts
success_message = record {
  number = 257;
  body = 0 ∷ 32 ∷ 0 ∷ 8 ∷ 0 ∷ 1 ∷ 189 ∷ 82 ∷ 231 ∷ 33 ∷ 192 ∷ 69 ∷ [];
  spelled = refl;
  typed = success_type;
  twelve = refl;
  length_fits = omega arith;
  attributes = ([], mapped_first, refl);
}

pub tells_client : address_named XOR_MAPPED_ADDRESS success_parts ≡ Some the_client
unfolding first_of counted address_of
tells_client = refl
