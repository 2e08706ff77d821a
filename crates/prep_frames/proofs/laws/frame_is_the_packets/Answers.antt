use Rattle.prep_frames.proofs.PacketBytes.{packets_bytes}
use Rattle.prep_frames.proofs.laws.frame_is_the_packets.Goals as goal

pub returns : goal.returns
returns c = λ scope after block packet read. packets_bytes scope after block packet read
