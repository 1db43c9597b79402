mod Resting
