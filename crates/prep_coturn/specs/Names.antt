-- The names in a configuration.
use Rattle.std.specs.Prelude.{ℕ, List, codes}
use Rattle.prep_coturn.specs.declared.setting.Setting.{Setting}
use Rattle.prep_coturn.specs.declared.setting.Setting.TheVariants as settings
use Rattle.prep_coturn.specs.declared.setting.Unjudged.{Unjudged}
use Rattle.prep_coturn.specs.declared.setting.Unjudged.TheVariants as unjudged

abbrev pub setting_name : Setting → List ℕ
setting_name settings.ListeningIp = codes "listening-ip"
setting_name settings.RelayIp = codes "relay-ip"
setting_name settings.ExternalIp = codes "external-ip"
setting_name settings.AuxServer = codes "aux-server"
setting_name settings.ListeningPort = codes "listening-port"
setting_name settings.TlsPort = codes "tls-listening-port"
setting_name settings.AltPort = codes "alt-listening-port"
setting_name settings.AltTlsPort = codes "alt-tls-listening-port"
setting_name settings.MinPort = codes "min-port"
setting_name settings.MaxPort = codes "max-port"
setting_name settings.Cert = codes "cert"
setting_name settings.Key = codes "pkey"
setting_name settings.NoDtls = codes "no-dtls"
setting_name settings.NoRfc5780 = codes "no-rfc5780"
setting_name settings.NoTcp = codes "no-tcp"
setting_name settings.NoTls = codes "no-tls"
setting_name settings.Mobility = codes "mobility"
setting_name settings.AlternateServer = codes "alternate-server"
setting_name settings.PermissionLifetime = codes "permission-lifetime"
setting_name settings.ChannelLifetime = codes "channel-lifetime"

abbrev pub unjudged_name : Unjudged → List ℕ
unjudged_name unjudged.NoAuth = codes "no-auth"
unjudged_name unjudged.Oauth = codes "oauth"
unjudged_name unjudged.ServerRelay = codes "server-relay"
unjudged_name unjudged.NoUdp = codes "no-udp"
unjudged_name unjudged.NoUdpRelay = codes "no-udp-relay"
unjudged_name unjudged.StunOnly = codes "stun-only"
unjudged_name unjudged.ListeningDevice = codes "listening-device"
unjudged_name unjudged.RelayDevice = codes "relay-device"
