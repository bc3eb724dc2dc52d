pub mod pcap_lemmas
pub mod Packets
pub mod wires_lemmas
