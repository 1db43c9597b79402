mod Recorded
mod Recordings
