-- The settings of a configuration, with coturn's defaults.
use Rattle.std.specs.Prelude.{[], false}
use Rattle.prep_coturn.specs.declared.conf.Conf.{Conf}

abbrev pub nothing_said : Conf
nothing_said = record {
  listening = [];
  relaying = [];
  external = [];
  aux = [];
  listening_port = 3478;
  tls_port = 5349;
  alt_port = 0;
  alt_tls_port = 0;
  min_port = 49152;
  max_port = 65535;
  has_cert = false;
  has_key = false;
  no_dtls = false;
  no_rfc5780 = false;
  no_tcp = false;
  no_tls = false;
}
