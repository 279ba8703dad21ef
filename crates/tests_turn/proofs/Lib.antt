pub mod AllJoined
